-- Blocks in their places: which are there, and which bytes stand in them.
use Rattle.std.proofs.Common.{◌≡◌, ℕ, zero, suc, ◌+◌, ◌-◌, ◌/◌, ◌<◌, ◌≤◌, Bool, true, false, List, [], ◌∷◌, ◌++◌, length, take, drop, replicate, get_or, set, slice_set, refl, sym, ap, ◌∙◌, inl, inr, arith, Option, Some, None, is_some, max, ◌⊎◌}
use Rattle.std.proofs.lemmas.Bool.{cases_lt, cases_eq}
use Rattle.std.proofs.lemmas.List.{ext_get_or, length-append, length-take, length-drop, length-replicate, get_or-set_same, get_or-set_other, get_or_past, length-set, get_or-replicate, get_or-append_right, get_or_append_left, get_or-take, get_or-drop, length-map}
use Rattle.qx_isolation.specs.Rows.{row_at}
use Rattle.qx_files.specs.Blocks.{blocks_for, with_blocks}
use Rattle.qx_files.specs.inner.Places.{HasAll, LacksOne, byte_after, padded, pasted, there}

-- ---- which are there

pub there_at : (blocks : List (Option ℕ)) (n : ℕ) → get_or (there blocks) n false ≡ is_some (row_at blocks n)
there_at [] n = refl
there_at (x ∷ blocks) zero = refl
there_at (x ∷ blocks) (suc n) = there_at blocks n

pub length-with : (b : List Bool) (f e : ℕ) → f ≤ e → length (with_blocks b f e) ≡ max (length b) e
length-with b f e le = simp (length-append, length-replicate, length-take, length-drop) (omega arith)

-- one of the blocks made
pub made-with : (b : List Bool) (f e n : ℕ) → f ≤ n → n < e → get_or (with_blocks b f e) n false ≡ true
made-with b f e n low high =
    get_or-append_right (take f b ++ replicate (f - length b) false) (replicate (e - f) true ++ drop e b) f n false (simp (length-append, length-replicate, length-take) (omega arith)) low
    ∙ (get_or_append_left (replicate (e - f) true) (drop e b) false (n - f) (omega (arith, length-replicate {A = Bool} (e - f) true))
    ∙ get_or-replicate (e - f) (n - f) true false (omega arith))

-- one before them
before-with : (b : List Bool) (f e n : ℕ) → n < f → get_or (with_blocks b f e) n false ≡ get_or b n false
before-with b f e n low =
    get_or_append_left (take f b ++ replicate (f - length b) false) (replicate (e - f) true ++ drop e b) false n (simp (length-append, length-replicate, length-take) (omega arith))
    ∙ elim (cases_lt n (length b)) [
      | inl within ↦ get_or_append_left (take f b) (replicate (f - length b) false) false n (omega (arith, length-take f b)) ∙ get_or-take f b n false low
      | inr past ↦ get_or-append_right (take f b) (replicate (f - length b) false) (length b) n false (omega (arith, length-take f b)) past ∙ (get_or-replicate (f - length b) (n - length b) false false (omega arith) ∙ sym (get_or_past b n false past))
    ]

-- one behind them
behind-with : (b : List Bool) (f e n : ℕ) → f ≤ e → e ≤ n → get_or (with_blocks b f e) n false ≡ get_or b n false
behind-with b f e n order high =
    get_or-append_right (take f b ++ replicate (f - length b) false) (replicate (e - f) true ++ drop e b) f n false (simp (length-append, length-replicate, length-take) (omega arith)) (omega arith)
    ∙ (get_or-append_right (replicate (e - f) true) (drop e b) (e - f) (n - f) false (length-replicate {A = Bool} (e - f) true) (omega arith)
    ∙ (get_or-drop e b (n - f - (e - f)) false ∙ ap (λ k. get_or b k false) (omega arith)))

pub other-with : (b : List Bool) (f e n : ℕ) → f ≤ e → (f ≤ n → n < e → ⊥) → get_or (with_blocks b f e) n false ≡ get_or b n false
other-with b f e n order out = elim (cases_lt n f) [
  | inl low ↦ before-with b f e n low
  | inr from ↦ elim (cases_lt n e) [ inl within ↦ absurd (out from within) | inr high ↦ behind-with b f e n order high ]
]

-- that a list is this one, by its length and what stands in it
is_with : (b now : List Bool) (f e : ℕ) → f ≤ e → length now ≡ max (length b) e → ((n : ℕ) → f ≤ n → n < e → get_or now n false ≡ true) → ((n : ℕ) → (f ≤ n → n < e → ⊥) → get_or now n false ≡ get_or b n false) → now ≡ with_blocks b f e
is_with b now f e order long made other = ext_get_or false _ _ (long ∙ sym (length-with b f e order)) (λ n inside. elim (cases_lt n f) [
  | inl low ↦ other n (λ from to. omega (arith, low, from)) ∙ sym (before-with b f e n low)
  | inr from ↦ elim (cases_lt n e) [
    | inl within ↦ made n from within ∙ sym (made-with b f e n from within)
    | inr high ↦ other n (λ low to. omega (arith, high, to)) ∙ sym (behind-with b f e n order high)
  ]
])

-- what is there already needs not be made
with-there : (b : List Bool) (f e : ℕ) → f < e → e ≤ length b → get_or b (e - 1) false ≡ true → with_blocks b f (e - 1) ≡ with_blocks b f e
with-there b f e less within is = is_with b (with_blocks b f (e - 1)) f e (omega arith) (length-with b f (e - 1) (omega (arith, less)) ∙ omega (arith, less, within)) (λ n from to. elim (cases_eq n (e - 1)) [
  | inl same ↦ behind-with b f (e - 1) n (omega (arith, less)) (omega (arith, same)) ∙ (ap (λ k. get_or b k false) same ∙ is)
  | inr differ ↦ made-with b f (e - 1) n from (omega (arith, to, differ))
]) (λ n out. other-with b f (e - 1) n (omega (arith, less)) (λ from to. out from (omega (arith, to))))

-- the last one is made last
with-made : (b : List Bool) (f e : ℕ) → f < e → e ≤ length b → set (with_blocks b f (e - 1)) (e - 1) true ≡ with_blocks b f e
with-made b f e less within = is_with b (set rest (e - 1) true) f e (omega arith) (length-set rest (e - 1) true ∙ long) (λ n from to. elim (cases_eq n (e - 1)) [
  | inl same ↦ ap (λ k. get_or (set rest (e - 1) true) k false) same ∙ get_or-set_same rest (e - 1) true false (omega (arith, long, less))
  | inr differ ↦ get_or-set_other rest (e - 1) n true false differ ∙ made-with b f (e - 1) n from (omega (arith, to, differ))
]) (λ n out. get_or-set_other rest (e - 1) n true false (λ same. out (omega (arith, same, less)) (omega (arith, same, less))) ∙ other-with b f (e - 1) n (omega (arith, less)) (λ from to. out from (omega (arith, to))))
  where
    rest : List Bool
    rest = with_blocks b f (e - 1)

    long : length rest ≡ max (length b) e
    long = length-with b f (e - 1) (omega (arith, less)) ∙ omega (arith, less, within)

-- none is made
with-none : (b : List Bool) (f : ℕ) → f ≤ length b → b ≡ with_blocks b f f
with-none b f within = is_with b b f f (omega arith) (omega (arith, within)) (λ n from to. absurd (omega (arith, from, to))) (λ n out. refl)

-- ---- places behind those that are there

length-padded : (b : List Bool) (t : ℕ) → length (padded b t) ≡ max (length b) t
length-padded b t = simp (length-append, length-replicate) (omega arith)

padded_at : (b : List Bool) (t n : ℕ) → get_or (padded b t) n false ≡ get_or b n false
padded_at b t n = elim (cases_lt n (length b)) [
  | inl within ↦ get_or_append_left b (replicate (t - length b) false) false n within
  | inr past ↦ get_or-append_right b (replicate (t - length b) false) (length b) n false refl past ∙ (none (t - length b) (n - length b) ∙ sym (get_or_past b n false past))
]
  where
    none : (z k : ℕ) → get_or (replicate z false) k false ≡ false
    none zero k = refl
    none (suc z) zero = refl
    none (suc z) (suc k) = none z k

-- they are those of the blocks that are made
pub with-padded : (b : List Bool) (f t : ℕ) → f ≤ t → with_blocks (padded b t) f t ≡ with_blocks b f t
with-padded b f t order = is_with b (with_blocks (padded b t) f t) f t order (length-with (padded b t) f t order ∙ omega (arith, length-padded b t)) (λ n from to. made-with (padded b t) f t n from to) (λ n out. other-with (padded b t) f t n order out ∙ padded_at b t n)

-- all are there
pub with-all : (places : List (Option ℕ)) (f e : ℕ) → f ≤ e → ((n : ℕ) → n < e → is_some (row_at places n) ≡ true) → there places ≡ with_blocks (there places) f e
with-all places f e order all = is_with (there places) (there places) f e order long (λ n from to. there_at places n ∙ all n to) (λ n out. refl)
  where
    long : length (there places) ≡ max (length (there places)) e
    long = elim (cases_lt (length (there places)) e) [
      | inl less ↦ absurd (let clash : true ≡ false = sym (all (e - 1) (omega (arith, less))) ∙ (sym (there_at places (e - 1)) ∙ get_or_past (there places) (e - 1) false (omega (arith, less))) in cc)
      | inr within ↦ omega (arith, within)
    ]

pub there-none : (blocks : List (Option ℕ)) (z : ℕ) → there (blocks ++ replicate z None) ≡ there blocks ++ replicate z false
there-none [] zero = refl
there-none [] (suc z) = ap (λ l. false ∷ l) (there-none [] z)
there-none (x ∷ blocks) z = ap (λ l. is_some x ∷ l) (there-none blocks z)

pub there-set : (places : List (Option ℕ)) (n place : ℕ) → there (slice_set places n (Some place)) ≡ set (there places) n true
there-set [] n place = refl
there-set (x ∷ places) zero place = refl
there-set (x ∷ places) (suc n) place = ap (λ l. is_some x ∷ l) (there-set places n place)

-- ---- what making them comes to

module _ (old now : List (Option ℕ)) (f e t : ℕ) (within : e ≤ t) where
  abbrev Made : ℕ → Type 0
  Made last = there now ≡ with_blocks (padded (there old) t) f last

  long : e ≤ length (padded (there old) t)
  long = omega (arith, within, length-padded (there old) t)

  pub made_none : f ≡ e → now ≡ old ++ replicate (t - length old) None → Made e
  made_none same is =
      ap there is ∙ (there-none old (t - length old)
      ∙ (ap (λ k. there old ++ replicate (t - k) false) (sym (length-map old (λ block. is_some block)))
      ∙ (with-none (padded (there old) t) e long ∙ ap (λ k. with_blocks (padded (there old) t) k e) (sym same))))

  pub made_there : f < e → is_some (row_at old (e - 1)) ≡ true → Made (e - 1) → Made e
  made_there less is made = made ∙ with-there (padded (there old) t) f e less long (padded_at (there old) t (e - 1) ∙ (there_at old (e - 1) ∙ is))

  pub made_last : (mid : List (Option ℕ)) → f < e → there mid ≡ with_blocks (padded (there old) t) f (e - 1) → there now ≡ set (there mid) (e - 1) true → Made e
  made_last mid less made is = is ∙ (ap (λ b. set b (e - 1) true) made ∙ with-made (padded (there old) t) f e less long)

-- it has a place, and none yet in which it stands
module _ (old mid : List (Option ℕ)) (f e t : ℕ) (less : f < e) (within : e ≤ t) (made : there mid ≡ with_blocks (padded (there old) t) f (e - 1)) where
  pub place_within : e - 1 < length mid
  place_within = omega (arith, less, within, ap length made, length-with (padded (there old) t) f (e - 1) (omega (arith, less)), length-padded (there old) t, length-map mid (λ place. is_some place))

  pub place_lacking : is_some (row_at old (e - 1)) ≡ false → row_at mid (e - 1) ≡ None
  place_lacking none = by_row (row_at mid (e - 1)) (sym (there_at mid (e - 1)) ∙ (ap (λ b. get_or b (e - 1) false) made ∙ (behind-with (padded (there old) t) f (e - 1) (e - 1) (omega (arith, less)) (omega arith) ∙ (padded_at (there old) t (e - 1) ∙ (there_at old (e - 1) ∙ none)))))
    where
      by_row : (row : Option ℕ) → is_some row ≡ false → row ≡ None
      by_row None is = refl
      by_row (Some place) is = absurd (cc)

pub lacks_this : (old : List (Option ℕ)) (f e : ℕ) → f < e → is_some (row_at old (e - 1)) ≡ false → LacksOne old f e
lacks_this old f e less none = (e - 1, omega (arith, less), omega (arith, less), there_at old (e - 1) ∙ none)

pub lacks_further : (old : List (Option ℕ)) (f e t more : ℕ) → (0 < more) ⊎ ((length old < t) ⊎ LacksOne old f (e - 1)) → (0 < more) ⊎ ((length old < t) ⊎ LacksOne old f e)
lacks_further old f e t more (inl some) = inl some
lacks_further old f e t more (inr (inl fewer)) = inr (inl fewer)
lacks_further old f e t more (inr (inr lacks)) = inr (inr (let to = lacks.2 in (lacks.0, lacks.1, omega (arith, to), lacks.3)))

-- ---- bytes are put

-- a place among the bytes that are put
pub in_put : (offset : ℕ) (new : List ℕ) (before : ℕ → ℕ) (n : ℕ) → offset ≤ n → n < offset + length new → byte_after offset new before n ≡ get_or new (n - offset) 0
in_put offset new before n low high = grind arith

-- and one that isn't
pub not_put : (offset : ℕ) (new : List ℕ) (before : ℕ → ℕ) (n : ℕ) → (offset ≤ n → n < offset + length new → ⊥) → byte_after offset new before n ≡ before n
not_put offset new before n out = grind arith

pub byte_pasted : (block new : List ℕ) (at n : ℕ) → at + length new ≤ length block → get_or (pasted at new block) n 0 ≡ byte_after at new (λ k. get_or block k 0) n
byte_pasted block new at n le = elim (cases_lt n at) [
  | inl low ↦
      get_or_append_left (take at block) (new ++ drop (at + length new) block) 0 n (omega (arith, length-take at block))
      ∙ (get_or-take at block n 0 low ∙ sym (not_put at new (λ k. get_or block k 0) n (λ from to. omega arith)))
  | inr from ↦
      get_or-append_right (take at block) (new ++ drop (at + length new) block) at n 0 (omega (arith, length-take at block)) from
      ∙ elim (cases_lt n (at + length new)) [
        | inl within ↦ get_or_append_left new (drop (at + length new) block) 0 (n - at) (omega arith) ∙ sym (in_put at new (λ k. get_or block k 0) n from within)
        | inr past ↦
            get_or-append_right new (drop (at + length new) block) (length new) (n - at) 0 refl (omega arith)
            ∙ (get_or-drop (at + length new) block (n - at - length new) 0 ∙ (ap (λ k. get_or block k 0) (omega arith) ∙ sym (not_put at new (λ k. get_or block k 0) n (λ low high. omega arith))))
      ]
]

-- the front and then the rest
pub put_twice : (offset c : ℕ) (new : List ℕ) (before : ℕ → ℕ) (n : ℕ) → c ≤ length new → byte_after (offset + c) (drop c new) (byte_after offset (take c new) before) n ≡ byte_after offset new before n
put_twice offset c new before n le = elim (cases_lt n offset) [
  | inl low ↦
      not_put (offset + c) (drop c new) (byte_after offset (take c new) before) n (λ from to. omega (arith, low, from))
      ∙ (not_put offset (take c new) before n (λ from to. omega (arith, low, from)) ∙ sym (not_put offset new before n (λ from to. omega (arith, low, from))))
  | inr from ↦ elim (cases_lt n (offset + c)) [
    | inl front ↦
        not_put (offset + c) (drop c new) (byte_after offset (take c new) before) n (λ low to. omega (arith, low, front))
        ∙ (in_put offset (take c new) before n from (omega (arith, front, le, length-take c new))
        ∙ (get_or-take c new (n - offset) 0 (omega (arith, from, front)) ∙ sym (in_put offset new before n from (omega (arith, front, le)))))
    | inr rest ↦ elim (cases_lt n (offset + length new)) [
      | inl within ↦
          in_put (offset + c) (drop c new) (byte_after offset (take c new) before) n rest (omega (arith, le, within, length-drop c new))
          ∙ (get_or-drop c new (n - (offset + c)) 0 ∙ (ap (λ k. get_or new k 0) (omega (arith, rest)) ∙ sym (in_put offset new before n from within)))
      | inr past ↦
          not_put (offset + c) (drop c new) (byte_after offset (take c new) before) n (λ low high. omega (arith, past, high, le, length-drop c new))
          ∙ (not_put offset (take c new) before n (λ low high. omega (arith, rest, high, length-take c new)) ∙ sym (not_put offset new before n (λ low high. omega (arith, past, high))))
    ]
  ]
]

-- a block that is there
pub has_row : (blocks : List (Option ℕ)) (n : ℕ) → (get_or (there blocks) n false ≡ false → ⊥) → is_some (row_at blocks n) ≡ true
has_row blocks n has = by_test (is_some (row_at blocks n)) refl
  where
    by_test : (test : Bool) → is_some (row_at blocks n) ≡ test → is_some (row_at blocks n) ≡ true
    by_test true is = is
    by_test false is = absurd (has (there_at blocks n ∙ is))

module _ (offset c : ℕ) (new front back : List ℕ) (le : c ≤ length new) (front_is : front ≡ take c new) (back_is : back ≡ drop c new) where
  -- the first run, and what was put behind it
  pub runs_put : (old mid now : ℕ → ℕ) → ((n : ℕ) → mid n ≡ byte_after offset front old n) → ((n : ℕ) → now n ≡ byte_after (offset + c) back mid n) → (n : ℕ) → now n ≡ byte_after offset new old n
  runs_put old mid now first rest n =
      let one : (k : ℕ) → mid k ≡ byte_after offset (take c new) old k = λ k. first k ∙ (λ i. byte_after offset (front_is i) old k) in
      rest n ∙ (ap (λ piece. byte_after (offset + c) piece mid n) back_is ∙ (ap (λ before. byte_after (offset + c) (drop c new) before n) (λ i k. one k i) ∙ put_twice offset c new old n le))

  pub has_rest : (places : List (Option ℕ)) → HasAll places (offset / 512) (blocks_for (offset + length new)) → HasAll places ((offset + c) / 512) (blocks_for (offset + c + length back))
  has_rest places has n from to =
      let long : length back ≡ length new - c = ap length back_is ∙ length-drop c new in
      has n (omega (arith, from)) (omega (arith, to, le, long))
