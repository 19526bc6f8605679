-- A number that is read is the number that was written, and what was written is read again.
use Rattle.std.proofs.Common.{◌≡◌, ℕ, ◌+◌, ◌^◌, ◌<◌, ◌≤◌, Bool, true, false, cond, eqb, ltb, List, [], ◌∷◌, ◌++◌, length, get_or, take, drop, Option, Some, None, refl, sym, ap, subst, ◌∙◌, arith, inl, inr}
use Rattle.std.specs.List.{All}
use Rattle.std.specs.Int.{Width, w8, w16, w32, w64, byte_len, from_le_bytes, to_le_bytes}
use Rattle.std.proofs.lemmas.Bool.{cases_lt, ltb-false, le-ltb, eqb-true}
use Rattle.std.proofs.lemmas.List.{take_at, drop_at, take-append-drop, length-append, length-take, get_or-drop, get_or-take, get_or_past, nil_from_length}
use Rattle.std.proofs.lemmas.Nat.{le_bytes_2, le_bytes_4, le_bytes_8, from_le_bytes-to_le_bytes_2, from_le_bytes-to_le_bytes_4, from_le_bytes-to_le_bytes_8}
use Rattle.std.proofs.lemmas.Option.{same_Some}
use Rattle.qx_types.specs.Optional.{◌>>=◌}
use Rattle.qx_wire.specs.declared.message.Message.{Message}
use Rattle.qx_wire.specs.Reading.{number_at, ended}

abbrev pub IsBytes : List ℕ → Type 0
IsBytes bytes = (i : ℕ) → get_or bytes i 0 < 256

pub IsBytes-from_All : (bytes : List ℕ) → All (λ byte. byte < 256) bytes → IsBytes bytes
IsBytes-from_All bytes h i =
    elim (cases_lt i (length bytes)) [
      | inl lt ↦ h i 0 lt
      | inr le ↦ rw (get_or_past bytes i 0 le) (omega arith)
    ]

IsBytes-drop : (n : ℕ) (bytes : List ℕ) → IsBytes bytes → IsBytes (drop n bytes)
IsBytes-drop n bytes h i = rw get_or-drop (h (n + i))

pub IsBytes-take : (n : ℕ) (bytes : List ℕ) → IsBytes bytes → IsBytes (take n bytes)
IsBytes-take n bytes h i =
    elim (cases_lt i n) [
      | inl lt ↦ rw (get_or-take n bytes i 0 lt) (h i)
      | inr le ↦ rw (get_or_past (take n bytes) i 0 (omega (arith, length-take n bytes))) (omega arith)
    ]

-- a test that let something through
pub none_else_some : {A : Type 0} (b : Bool) (x y : A) → cond b None (Some x) ≡ Some y → (b ≡ false) × (x ≡ y)
none_else_some true x y e = absurd cc
none_else_some false x y e = (refl, cc)

pub some_else_none : {A : Type 0} (b : Bool) (o : Option A) (y : A) → cond b o None ≡ Some y → (b ≡ true) × (o ≡ Some y)
some_else_none true o y e = (refl, e)
some_else_none false o y e = absurd cc

pub bind_some : {A B : Type 0} (o : Option A) (f : A → Option B) (y : B) → (o >>= f) ≡ Some y → (x : A) × (o ≡ Some x) × (f x ≡ Some y)
bind_some (Some x) f y e = (x, refl, e)
bind_some None f y e = absurd cc

-- ---- widths

-- numbers of w are those below limit, and have one spelling
pub record IsWide (w : Width) (limit : ℕ) : Type 0 where
  pub len : (n : ℕ) → length (to_le_bytes w n) ≡ byte_len w
  pub back : (bytes : List ℕ) → length bytes ≡ byte_len w → IsBytes bytes → to_le_bytes w (from_le_bytes w bytes) ≡ bytes
  pub again : (n : ℕ) → n < limit → from_le_bytes w (to_le_bytes w n) ≡ n
  pub below : (bytes : List ℕ) → IsBytes bytes → from_le_bytes w bytes < limit

one_byte : (bytes : List ℕ) → length bytes ≡ 1 → IsBytes bytes → to_le_bytes w8 (from_le_bytes w8 bytes) ≡ bytes
one_byte [] len fits = absurd (omega arith)
one_byte (b ∷ []) len fits = let low : b < 256 = fits 0 in ap (λ (x : ℕ). x ∷ []) (omega arith)
one_byte (b ∷ c ∷ bytes) len fits = absurd (omega arith)

pub wide8 : IsWide w8 (2 ^ 8)
wide8 = record {
  len = λ n. refl;
  back = one_byte;
  again = λ n lt. omega arith;
  below = λ bytes fits. omega (arith, fits 0);
}

pub wide16 : IsWide w16 (2 ^ 16)
wide16 = record {
  len = λ n. refl;
  back = λ bytes len fits. le_bytes_2 bytes _ len fits refl;
  again = λ n lt. from_le_bytes-to_le_bytes_2 n lt;
  below = λ bytes fits. omega (arith, fits 0, fits 1);
}

pub wide32 : IsWide w32 (2 ^ 32)
wide32 = record {
  len = λ n. refl;
  back = λ bytes len fits. le_bytes_4 bytes _ len fits refl;
  again = λ n lt. from_le_bytes-to_le_bytes_4 n lt;
  below = λ bytes fits. omega (arith, fits 0, fits 1, fits 2, fits 3);
}

pub wide64 : IsWide w64 (2 ^ 64)
wide64 = record {
  len = λ n. refl;
  back = λ bytes len fits. le_bytes_8 bytes _ len fits refl;
  again = λ n lt. from_le_bytes-to_le_bytes_8 n lt;
  below = λ bytes fits. omega (arith, fits 0, fits 1, fits 2, fits 3, fits 4, fits 5, fits 6, fits 7);
}

-- ---- numbers at the front

-- what was read there: a number below limit, and the bytes after it, with which the reading went on
pub record Peeled {B : Type 0} (w : Width) (limit : ℕ) (bytes : List ℕ) (next : ℕ × List ℕ → Option B) (y : B) : Type 0 where
  pub n : ℕ
  pub rest : List ℕ
  pub parts : bytes ≡ to_le_bytes w n ++ rest
  pub below : n < limit
  pub fits : IsBytes rest
  pub goes_on : next (n, rest) ≡ Some y

pub peel : {B : Type 0} (w : Width) (limit : ℕ) (wide : IsWide w limit) (bytes : List ℕ) (next : ℕ × List ℕ → Option B) (y : B) → IsBytes bytes → (number_at w bytes >>= next) ≡ Some y → Peeled w limit bytes next y
peel w limit wide bytes next y fits e =
    let b = bind_some (number_at w bytes) next y e in
    let g = none_else_some (ltb (length bytes) (byte_len w)) (from_le_bytes w (take (byte_len w) bytes), drop (byte_len w) bytes) b.0 b.1 in
    let long : byte_len w ≤ length bytes = ltb-false _ _ g.0 in
    let front : to_le_bytes w (from_le_bytes w (take (byte_len w) bytes)) ≡ take (byte_len w) bytes = wide.back (take (byte_len w) bytes) (omega (arith, length-take (byte_len w) bytes)) (IsBytes-take (byte_len w) bytes fits) in
    record {
      n = from_le_bytes w (take (byte_len w) bytes);
      rest = drop (byte_len w) bytes;
      parts = rw front (sym (take-append-drop (byte_len w) bytes));
      below = wide.below (take (byte_len w) bytes) (IsBytes-take (byte_len w) bytes fits);
      fits = IsBytes-drop (byte_len w) bytes fits;
      goes_on = subst (λ (x : ℕ × List ℕ). next x ≡ Some y) (sym g.1) b.2;
    }

-- the number that was read goes before what is spelled after it
pub put_back : {B : Type 0} {w : Width} {limit : ℕ} {bytes : List ℕ} {next : ℕ × List ℕ → Option B} {y : B} (p : Peeled w limit bytes next y) (tail : List ℕ) → tail ≡ p.rest → to_le_bytes w p.n ++ tail ≡ bytes
put_back {w = w} p tail e = ap (λ (r : List ℕ). to_le_bytes w p.n ++ r) e ∙ sym p.parts

pub number_again : (w : Width) (limit : ℕ) (wide : IsWide w limit) (n : ℕ) (rest : List ℕ) → n < limit → number_at w (to_le_bytes w n ++ rest) ≡ Some (n, rest)
number_again w limit wide n rest lt =
    let len = wide.len n in
    let long : ltb (length (to_le_bytes w n ++ rest)) (byte_len w) ≡ false = le-ltb _ _ (omega (arith, length-append (to_le_bytes w n) rest)) in
    rw (long, take_at (to_le_bytes w n) rest (byte_len w) len, drop_at (to_le_bytes w n) rest (byte_len w) len, wide.again n lt) refl

-- ---- the end

pub ended_some : (bytes : List ℕ) (m y : Message) → ended bytes m ≡ Some y → (bytes ≡ []) × (m ≡ y)
ended_some bytes m y e =
    let g = some_else_none (eqb (length bytes) 0) (Some m) y e in
    (nil_from_length bytes (eqb-true _ _ g.0), same_Some _ _ g.1)
