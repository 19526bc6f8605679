-- The blocks that are there, in their places: as one is made, and as bytes are put into them.
use Rattle.std.proofs.Common.{◌≡◌, ℕ, zero, suc, ◌+◌, ◌-◌, ◌*◌, ◌/◌, ◌%◌, ◌<◌, ◌≤◌, Bool, true, false, cond, List, [], ◌∷◌, ◌++◌, length, replicate, get_or, set, slice_set, refl, sym, ap, ◌∙◌, inl, inr, arith, Option, Some, None, is_some, ◌⊎◌}
use Rattle.std.specs.Prelude.{option_map}
use Rattle.std.proofs.lemmas.Bool.{cases_eq, cases_lt}
use Rattle.std.proofs.lemmas.List.{get_or-append_right, get_or_append_left, get_or-set_same, length-map}
use Rattle.std.proofs.lemmas.List.Folds.{sum_by-replicate}
use Rattle.std.proofs.lemmas.List.Sums.{sum_by-append, sum_by-set}
use Rattle.qx_isolation.specs.Rows.{row_at}
use Rattle.qx_isolation.proofs.Places.{row_at-set_cases, row_at-set_other}
use Rattle.qx_rows.proofs.RowLemmas.{row_at-get_or}
use Rattle.qx_files.specs.Blocks.{count_of}
use Rattle.qx_files.specs.inner.Places.{InOrder, InRun, Stand, Stay, byte_after, byte_at, byte_in, pasted, place_of, there}
use Rattle.qx_files.proofs.BlockLemmas.{byte_pasted, in_put, not_put, there_at, there-none, there-set}

-- where a byte stands in its block
abbrev within_block : ℕ → Option ℕ → Option ℕ
within_block n row = option_map (λ index. 512 * index + n % 512) row

-- ---- places with no blocks

row-none : (places : List (Option ℕ)) (z n : ℕ) → row_at (places ++ replicate z None) n ≡ row_at places n
row-none [] zero n = refl
row-none [] (suc z) zero = refl
row-none [] (suc z) (suc n) = row-none [] z n
row-none (x ∷ places) z zero = refl
row-none (x ∷ places) z (suc n) = row-none places z n

module _ (places now : List (Option ℕ)) (z : ℕ) (is : now ≡ places ++ replicate z None) where
  pub byte-none : (bytes : List ℕ) (n : ℕ) → byte_at bytes now n ≡ byte_at bytes places n
  byte-none bytes n = ap (λ row. byte_in bytes (within_block n row)) (ap (λ rows. row_at rows (n / 512)) is ∙ row-none places z (n / 512))

  pub stay-none : Stay places now
  stay-none n index at = ap (λ rows. row_at rows n) is ∙ (row-none places z n ∙ at)

abbrev one : Bool → ℕ
one is = cond is 1 0

count-none : (rows : List Bool) (z : ℕ) → count_of (Some (rows ++ replicate z false)) ≡ count_of (Some rows)
count-none rows z = sum_by-append one rows (replicate z false) ∙ (ap (λ k. count_of (Some rows) + k) (sum_by-replicate one z false) ∙ omega arith)

pub stand-none : (size z : ℕ) (places : List (Option ℕ)) → Stand size places → Stand size (places ++ replicate z None)
stand-none size z places stand = record {
  within = λ n p is. stand.within n p (sym (row-none places z n) ∙ is);
  apart = λ m n p at is. stand.apart m n p (sym (row-none places z m) ∙ at) (sym (row-none places z n) ∙ is);
  counted = stand.counted ∙ ap (λ k. 512 * k) (sym (ap (λ rows. count_of (Some rows)) (there-none places z) ∙ count-none (there places) z));
}

-- ---- a block is made

count-made : (rows : List Bool) (n : ℕ) → n < length rows → get_or rows n false ≡ false → count_of (Some (set rows n true)) ≡ count_of (Some rows) + 1
count-made rows n within is =
    let sum : count_of (Some (set rows n true)) + one (get_or rows n false) ≡ count_of (Some rows) + 1 = sum_by-set one rows n true false within in
    let none : one (get_or rows n false) ≡ 0 = ap one is in
    omega (arith, sum, none)

module _ (size n : ℕ) (places : List (Option ℕ)) (within : n < length places) (none : row_at places n ≡ None) where
  -- a place has the new block, or one that it had
  which : (m p : ℕ) → row_at (slice_set places n (Some (size / 512))) m ≡ Some p → ((m ≡ n) × (p ≡ size / 512)) ⊎ (row_at places m ≡ Some p)
  which m p is = elim (cases_eq m n) [
    | inl same ↦ elim (row_at-set_cases places n m (Some (size / 512)) p is) [ inl was ↦ inr was | inr put ↦ inl (same, (let e : p ≡ size / 512 = cc in e)) ]
    | inr differ ↦ inr (sym (row_at-set_other places n m (Some (size / 512)) differ) ∙ is)
  ]

  pub stay-made : Stay places (slice_set places n (Some (size / 512)))
  stay-made m p at = elim (cases_eq m n) [
    | inl same ↦ absurd (let clash : true ≡ false = ap is_some (sym at ∙ (ap (row_at places) same ∙ none)) in cc)
    | inr differ ↦ row_at-set_other places n m (Some (size / 512)) differ ∙ at
  ]

  pub stand-made : Stand size places → Stand (size + 512) (slice_set places n (Some (size / 512)))
  stand-made stand = record {
    within = λ m p is. elim (which m p is) [ inl new ↦ omega (arith, new.1) | inr old ↦ omega (arith, stand.within m p old) ];
    apart = λ l m p at is. elim (which l p at) [
      | inl new ↦ elim (which m p is) [ inl other ↦ new.0 ∙ sym other.0 | inr old ↦ absurd (omega (arith, new.1, stand.within m p old, stand.counted)) ]
      | inr old ↦ elim (which m p is) [ inl new ↦ absurd (omega (arith, new.1, stand.within l p old, stand.counted)) | inr other ↦ stand.apart l m p old other ]
    ];
    counted = let made : count_of (Some (there (slice_set places n (Some (size / 512))))) ≡ count_of (Some (there places)) + 1 = ap (λ rows. count_of (Some rows)) (there-set places n (size / 512)) ∙ count-made (there places) n (omega (arith, within, length-map places (λ row. is_some row))) (there_at places n ∙ ap is_some none) in
        omega (arith, made, stand.counted);
  }

pub zero_at : (z n : ℕ) → get_or {A = ℕ} (replicate z 0) n 0 ≡ 0
zero_at zero n = refl
zero_at (suc z) zero = refl
zero_at (suc z) (suc n) = zero_at z n

module _ (bytes : List ℕ) (places : List (Option ℕ)) (stand : Stand (length bytes) places) where
  -- its bytes are zero, as they were read before
  pub byte-made : (n : ℕ) → n < length places → row_at places n ≡ None → (k : ℕ) → byte_at (bytes ++ replicate 512 0) (slice_set places n (Some (length bytes / 512))) k ≡ byte_at bytes places k
  byte-made n within none k = elim (cases_eq (k / 512) n) [
    | inl same ↦
        ap byte (ap (row_at (slice_set places n (Some (length bytes / 512)))) same ∙ (row_at-get_or (slice_set places n (Some (length bytes / 512))) n ∙ get_or-set_same places n (Some (length bytes / 512)) None within))
        ∙ (get_or-append_right bytes (replicate 512 0) (length bytes) (512 * (length bytes / 512) + k % 512) 0 refl (omega (arith, stand.counted))
        ∙ (zero_at 512 (512 * (length bytes / 512) + k % 512 - length bytes) ∙ sym (ap (λ row. byte_in bytes (within_block k row)) (ap (row_at places) same ∙ none))))
    | inr differ ↦ ap byte (row_at-set_other places n (k / 512) (Some (length bytes / 512)) differ) ∙ by_row (row_at places (k / 512)) refl
  ]
    where
      byte : Option ℕ → ℕ
      byte row = byte_in (bytes ++ replicate 512 0) (within_block k row)

      by_row : (row : Option ℕ) → row_at places (k / 512) ≡ row → byte row ≡ byte_in bytes (within_block k row)
      by_row None is = refl
      by_row (Some p) is = get_or_append_left bytes (replicate 512 0) 0 (512 * p + k % 512) (omega (arith, stand.within (k / 512) p is, stand.counted))

  -- ---- runs

  -- no two bytes stand at one place
  place_once : (m n p : ℕ) → place_of places m ≡ Some p → place_of places n ≡ Some p → m ≡ n
  place_once m n p at is = by_rows (row_at places (m / 512)) (row_at places (n / 512)) refl refl at is
    where
      by_rows : (one other : Option ℕ) → row_at places (m / 512) ≡ one → row_at places (n / 512) ≡ other → within_block m one ≡ Some p → within_block n other ≡ Some p → m ≡ n
      by_rows None other one_is other_is at is = absurd (let clash : false ≡ true = ap is_some at in cc)
      by_rows (Some i) None one_is other_is at is = absurd (let clash : false ≡ true = ap is_some is in cc)
      by_rows (Some i) (Some j) one_is other_is at is =
          let at_is : 512 * i + m % 512 ≡ p = cc in
          let is_is : 512 * j + n % 512 ≡ p = cc in
          let same : j ≡ i = omega (arith, at_is, is_is) in
          let block : m / 512 ≡ n / 512 = stand.apart (m / 512) (n / 512) i one_is (other_is ∙ ap (λ k. Some k) same) in
          omega (arith, at_is, is_is, same, block)

  -- bytes are put where they stand one behind another
  pub byte-put : (offset at : ℕ) (new : List ℕ) → at + length new ≤ length bytes → ((k : ℕ) → k < length new → place_of places (offset + k) ≡ Some (at + k)) → (n : ℕ) → byte_at (pasted at new bytes) places n ≡ byte_after offset new (byte_at bytes places) n
  byte-put offset at new le run n = elim (cases_lt n offset) [
    | inl low ↦ outside (λ from to. omega (arith, low, from))
    | inr from ↦ elim (cases_lt n (offset + length new)) [ inl within ↦ inside from within | inr past ↦ outside (λ low high. omega (arith, past, high)) ]
  ]
    where
      old : ℕ → ℕ
      old k = get_or bytes k 0

      inside : offset ≤ n → n < offset + length new → byte_at (pasted at new bytes) places n ≡ byte_after offset new (byte_at bytes places) n
      inside from within =
          let here : n ≡ offset + (n - offset) = omega (arith, from) in
          ap (byte_in (pasted at new bytes)) (ap (place_of places) here ∙ run (n - offset) (omega (arith, from, within)))
          ∙ (byte_pasted bytes new at (at + (n - offset)) le
          ∙ (in_put at new old (at + (n - offset)) (omega arith) (omega (arith, from, within))
          ∙ (ap (λ i. get_or new i 0) (omega arith) ∙ sym (in_put offset new (byte_at bytes places) n from within))))

      outside : (offset ≤ n → n < offset + length new → ⊥) → byte_at (pasted at new bytes) places n ≡ byte_after offset new (byte_at bytes places) n
      outside out = by_place (place_of places n) refl ∙ sym (not_put offset new (byte_at bytes places) n out)
        where
          by_place : (place : Option ℕ) → place_of places n ≡ place → byte_in (pasted at new bytes) place ≡ byte_in bytes place
          by_place None is = refl
          by_place (Some p) is = byte_pasted bytes new at p le ∙ not_put at new old p (λ low high.
              let there : at + (p - at) ≡ p = omega (arith, low) in
              let same : n ≡ offset + (p - at) = place_once n (offset + (p - at)) p is (run (p - at) (omega (arith, low, high)) ∙ ap (λ k. Some k) there) in
              out (omega (arith, same)) (omega (arith, same, low, high)))

-- where the blocks stand that stand in order
order_is : (places : List (Option ℕ)) (in_order n index : ℕ) → InOrder places in_order → n < in_order → row_at places n ≡ Some index → index ≡ n
order_is places in_order n index ordered less is = let same : Some index ≡ Some n = sym is ∙ ordered n less in cc

pub order_within : (size in_order : ℕ) (places : List (Option ℕ)) → Stand size places → InOrder places in_order → 512 * in_order ≤ size
order_within size in_order places stand ordered = elim (cases_eq in_order 0) [
  | inl none ↦ omega (arith, none)
  | inr some ↦ omega (arith, stand.within (in_order - 1) (in_order - 1) (ordered (in_order - 1) (omega (arith, some))), stand.counted)
]

module _ (places : List (Option ℕ)) (in_order offset count index : ℕ) (ordered : InOrder places in_order) (run : InRun in_order offset count) (is : row_at places (offset / 512) ≡ Some index) where
  -- the bytes of a run stand one behind another
  pub run_stands : (k : ℕ) → k < count → place_of places (offset + k) ≡ Some (512 * index + offset % 512 + k)
  run_stands k less = elim run [
    | inl order ↦
        let first : index ≡ offset / 512 = order_is places in_order (offset / 512) index ordered (omega (arith, order, less)) is in
        ap (within_block (offset + k)) (ordered ((offset + k) / 512) (omega (arith, order, less))) ∙ ap (λ p. Some p) (omega (arith, first))
    | inr block ↦
        let same : (offset + k) / 512 ≡ offset / 512 = omega (arith, block, less) in
        ap (within_block (offset + k)) (ap (row_at places) same ∙ is) ∙ ap (λ p. Some p) (omega (arith, block, less))
  ]

  pub run_within : (size : ℕ) → Stand size places → 512 * index + offset % 512 + count ≤ size
  run_within size stand = elim run [
    | inl order ↦ elim (cases_lt (offset / 512) in_order) [
      | inl less ↦ omega (arith, order, order_is places in_order (offset / 512) index ordered less is, order_within size in_order places stand ordered)
      | inr past ↦ omega (arith, order, past, stand.within (offset / 512) index is, stand.counted)
    ]
    | inr block ↦ omega (arith, block, stand.within (offset / 512) index is, stand.counted)
  ]

-- ---- bytes are read

-- those of a block that isn't there
pub lacking_bytes : (bytes : List ℕ) (places : List (Option ℕ)) (offset n : ℕ) → row_at places (offset / 512) ≡ None → offset % 512 + n < 512 → byte_at bytes places (offset + n) ≡ 0
lacking_bytes bytes places offset n none less =
    let same : (offset + n) / 512 ≡ offset / 512 = omega (arith, less) in
    ap (λ row. byte_in bytes (within_block (offset + n) row)) (ap (row_at places) same ∙ none)
