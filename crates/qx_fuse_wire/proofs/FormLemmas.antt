-- What is spelled by a form is read again, and what is read is spelled: once for all forms.
use Rattle.std.proofs.Common.{◌≡◌, ℕ, suc, ◌+◌, ◌*◌, ◌^◌, ◌<◌, ◌≤◌, Bool, true, false, cond, not, eqb, ltb, List, [], ◌∷◌, ◌++◌, length, get_or, take, drop, Option, Some, None, refl, sym, ap, subst, ◌∙◌, arith, append_assoc, length-append, drop-cons}
use Rattle.std.specs.Prelude.{position}
use Rattle.std.specs.Int.{byte_len}
use Rattle.std.specs.List.{list_all, position_or_len}
use Rattle.std.proofs.Math.Seq.{get_or-append_seam}
use Rattle.std.proofs.lemmas.Bool.{and_parts, and_from, ltb-false, ltb-true, lt-ltb, le-ltb, eqb-true}
use Rattle.std.proofs.lemmas.List.{take-append-drop, nil_from_length, drop_at, take_at, get_or_append_left, get_or-append-add, get_or-drop, get_or-take, length-take-le}
use Rattle.std.proofs.lemmas.List.Quantifiers.{position-Some}
use Rattle.std.proofs.lemmas.List.Sums.{AllPass-from_list_all, list_all-from_AllPass, position_or_len_is}
use Rattle.std.proofs.lemmas.Option.{same_Some}
use Rattle.qx_types.specs.Optional.{◌>>=◌}
use Rattle.qx_wire.proofs.FieldLemmas.{IsBytes, IsWide, bind_some, none_else_some, some_else_none, number_again, peel, wide16, wide32, wide64}
use Rattle.qx_fuse_wire.specs.Forms.{CanBe, Field, Fits, Form, Maker, Size, Value, Values, a_name, a_text, all, behind, eight_bytes, end, field_at, field_bytes, four_bytes, has_no_slash, is_text, made_of, name_at, number, read, skip, spelled, text_at, two_bytes, width, ◌then◌}

pub wide : (size : Size) → IsWide (width size) (2 ^ (8 * byte_len (width size)))
wide two_bytes = wide16
wide four_bytes = wide32
wide eight_bytes = wide64

abbrev is_zero : ℕ → Bool
is_zero byte = eqb byte 0

not_true : (b : Bool) → not b ≡ true → b ≡ false
not_true true e = absurd cc
not_true false e = refl

not_false : (b : Bool) → b ≡ false → not b ≡ true
not_false b e = rw e refl

-- ---- what is spelled is read

position_is : (p : ℕ → Bool) (xs : List ℕ) (i : ℕ) → i < length xs → ((k : ℕ) → k < i → p (get_or xs k 0) ≡ false) → p (get_or xs i 0) ≡ true → position p xs ≡ Some i
position_is p xs i lt before there =
    let e : position_or_len p xs ≡ i = position_or_len_is p xs i 0 (omega (arith, lt)) before (λ _. there) in
    let inside : ltb i (length xs) ≡ true = lt-ltb _ _ lt in
    subst (λ (n : ℕ). cond (ltb n (length xs)) (Some n) None ≡ Some i) (sym e) (rw inside refl)

-- a text ends at the first zero byte
text_again : (text rest : List ℕ) → is_text text ≡ true → text_at ((text ++ 0 ∷ []) ++ rest) ≡ Some (text, rest)
unfolding text_at
text_again text rest is =
    let parts = and_parts (ltb 0 (length text)) (list_all (λ byte. not (eqb byte 0)) text) is in
    let some : 0 < length text = ltb-true _ _ parts.0 in
    let whole : (text ++ 0 ∷ []) ++ rest ≡ text ++ 0 ∷ rest = append_assoc text (0 ∷ []) rest in
    let none = AllPass-from_list_all (λ byte. not (eqb byte 0)) text parts.1 in
    let found : position is_zero (text ++ 0 ∷ rest) ≡ Some (length text) = position_is is_zero (text ++ 0 ∷ rest) (length text)
    (omega (arith, length-append text (0 ∷ rest)))
    (λ k lt. rw (get_or_append_left text (0 ∷ rest) 0 k lt) (not_true (eqb (get_or text k 0) 0) (none k 0 lt)))
    (rw (get_or-append_seam text 0 rest 0) refl) in
    let there : position is_zero ((text ++ 0 ∷ []) ++ rest) ≡ Some (length text) = subst (λ (bytes : List ℕ). position is_zero bytes ≡ Some (length text)) (sym whole) found in
    let next : ℕ → Option (List ℕ × List ℕ) = λ at. cond (eqb at 0) None (Some (take at ((text ++ 0 ∷ []) ++ rest), drop (at + 1) ((text ++ 0 ∷ []) ++ rest))) in
    let nonzero : eqb (length text) 0 ≡ false = grind (arith, some) in
    let first : take (length text) ((text ++ 0 ∷ []) ++ rest) ≡ text = rw whole (take_at text (0 ∷ rest) (length text) refl) in
    let second : drop (length text + 1) ((text ++ 0 ∷ []) ++ rest) ≡ rest = drop_at (text ++ 0 ∷ []) rest (length text + 1) (omega (arith, length-append text (0 ∷ []))) in
    let ends : next (length text) ≡ Some (text, rest) = rw (nonzero, first, second) refl in
    ap (λ (o : Option ℕ). o >>= next) there ∙ ends

field_again : (field : Field) (value : Value field) (rest : List ℕ) → Fits field value → field_at field (field_bytes field value ++ rest) ≡ Some (value, rest)
unfolding name_at
field_again (number size) n rest fits = number_again (width size) _ (wide size) n rest fits
field_again a_name name rest fits =
    let parts = and_parts (is_text name) (has_no_slash name) fits in
    rw (text_again name rest parts.0, parts.1) refl
field_again a_text text rest fits = text_again text rest fits

behind_again : (count : ℕ) (bytes rest : List ℕ) → length bytes ≡ count → behind count (bytes ++ rest) ≡ Some rest
behind_again count bytes rest len =
    let long : ltb (length (bytes ++ rest)) count ≡ false = le-ltb _ _ (omega (arith, length-append bytes rest, len)) in
    rw (long, drop_at bytes rest count len) refl

pub form_again : {A : Type 0} (form : Form) (made : Maker form A) (values : Values form) → CanBe form values → read form made (spelled form values) ≡ made_of form made values
form_again end made values can = refl
form_again all made values can = refl
form_again (skip count form) made values can = rw (behind_again count values.0 (spelled form values.1) can.0) (form_again form made values.1 can.1)
form_again (field then form) made values can = rw (field_again field values.0 (spelled form values.1) can.0) (form_again form (made values.0) values.1 can.1)

-- ---- what is read is spelled

IsBytes-drop : (n : ℕ) (bytes : List ℕ) → IsBytes bytes → IsBytes (drop n bytes)
IsBytes-drop n bytes h i = rw get_or-drop (h (n + i))

-- what was found is a field at the front
record IsFront (field : Field) (bytes : List ℕ) (found : Value field × List ℕ) : Type 0 where
  pub fits : Fits field found.0
  pub back : field_bytes field found.0 ++ found.1 ≡ bytes
  pub are : IsBytes found.1

text_front : (bytes : List ℕ) (found : List ℕ × List ℕ) → IsBytes bytes → text_at bytes ≡ Some found → IsFront a_text bytes found
unfolding text_at
text_front bytes found fits e =
    let b = bind_some (position is_zero bytes) (λ at. cond (eqb at 0) None (Some (take at bytes, drop (at + 1) bytes))) found e in
    let g = none_else_some (eqb b.0 0) (take b.0 bytes, drop (b.0 + 1) bytes) found b.2 in
    let p = position-Some is_zero bytes b.0 0 b.1 in
    let len : length (take b.0 bytes) ≡ b.0 = length-take-le b.0 bytes (omega (arith, p.0)) in
    let nonzero : ltb 0 (length (take b.0 bytes)) ≡ true = rw len (lt-ltb _ _ (grind (arith, g.0))) in
    let none : list_all (λ byte. not (eqb byte 0)) (take b.0 bytes) ≡ true = list_all-from_AllPass (λ byte. not (eqb byte 0)) (take b.0 bytes) (λ k d lt. let below : k < b.0 = omega (arith, lt, len) in rw (get_or-take b.0 bytes k d below) (not_false (eqb (get_or bytes k d) 0) ((position-Some is_zero bytes b.0 d b.1).2 k below))) in
    let zero : get_or bytes b.0 0 ≡ 0 = eqb-true _ _ p.1 in
    let one : b.0 + 1 ≡ suc b.0 = omega arith in
    let tail : 0 ∷ drop (b.0 + 1) bytes ≡ drop b.0 bytes = rw one (ap (λ (n : ℕ). n ∷ drop (suc b.0) bytes) (sym zero) ∙ sym (drop-cons bytes b.0 0 p.0)) in
    let back : (take b.0 bytes ++ 0 ∷ []) ++ drop (b.0 + 1) bytes ≡ bytes = append_assoc (take b.0 bytes) (0 ∷ []) (drop (b.0 + 1) bytes) ∙ ap (λ (rest : List ℕ). take b.0 bytes ++ rest) tail ∙ take-append-drop b.0 bytes in
    subst (IsFront a_text bytes) g.1 (record { fits = and_from (ltb 0 (length (take b.0 bytes))) _ nonzero none; back = back; are = IsBytes-drop (b.0 + 1) bytes fits })

field_front : (field : Field) (bytes : List ℕ) (found : Value field × List ℕ) → IsBytes bytes → field_at field bytes ≡ Some found → IsFront field bytes found
unfolding name_at
field_front (number size) bytes found fits e =
    let p = peel (width size) _ (wide size) bytes (λ f. Some f) found fits (ap (λ (o : Option (ℕ × List ℕ)). o >>= (λ f. Some f)) e) in
    subst (IsFront (number size) bytes) (same_Some _ _ p.goes_on) (record { fits = p.below; back = sym p.parts; are = p.fits })
field_front a_name bytes found fits e =
    let b = bind_some (text_at bytes) (λ f. cond (has_no_slash f.0) (Some f) None) found e in
    let g = some_else_none (has_no_slash b.0.0) (Some b.0) found b.2 in
    let front = text_front bytes b.0 fits b.1 in
    subst (IsFront a_name bytes) (same_Some _ _ g.1) (record { fits = and_from (is_text b.0.0) (has_no_slash b.0.0) front.fits g.0; back = front.back; are = front.are })
field_front a_text bytes found fits e = text_front bytes found fits e

-- values that make what was read
pub record IsRead {A : Type 0} (form : Form) (made : Maker form A) (bytes : List ℕ) (a : A) : Type 0 where
  pub values : Values form
  pub can : CanBe form values
  pub makes : made_of form made values ≡ Some a
  pub spells : spelled form values ≡ bytes

pub form_within : {A : Type 0} (form : Form) (made : Maker form A) (bytes : List ℕ) (a : A) → IsBytes bytes → read form made bytes ≡ Some a → IsRead form made bytes a
form_within end made bytes a fits e =
    let g = some_else_none (eqb (length bytes) 0) made a e in
    record { values = tt; can = tt; makes = g.1; spells = sym (nil_from_length bytes (eqb-true _ _ g.0)) }
form_within all made bytes a fits e = record { values = bytes; can = tt; makes = e; spells = refl }
form_within (skip count form) made bytes a fits e =
    let b = bind_some (behind count bytes) (λ rest. read form made rest) a e in
    let g = none_else_some (ltb (length bytes) count) (drop count bytes) b.0 b.1 in
    let rest = form_within form made b.0 a (subst IsBytes g.1 (IsBytes-drop count bytes fits)) b.2 in
    let long : count ≤ length bytes = ltb-false _ _ g.0 in
    record {
      values = (take count bytes, rest.values);
      can = (length-take-le count bytes long, rest.can);
      makes = rest.makes;
      spells = ap (λ (x : List ℕ). take count bytes ++ x) (rest.spells ∙ sym g.1) ∙ take-append-drop count bytes;
    }
form_within (field then form) made bytes a fits e =
    let b = bind_some (field_at field bytes) (λ found. read form (made found.0) found.1) a e in
    let front = field_front field bytes b.0 fits b.1 in
    let rest = form_within form (made b.0.0) b.0.1 a front.are b.2 in
    record {
      values = (b.0.0, rest.values);
      can = (front.fits, rest.can);
      makes = rest.makes;
      spells = ap (λ (x : List ℕ). field_bytes field b.0.0 ++ x) rest.spells ∙ front.back;
    }

-- ---- the bytes at the end

IsBytes-right : (xs ys : List ℕ) → IsBytes (xs ++ ys) → IsBytes ys
IsBytes-right xs ys h i = subst (λ (byte : ℕ). byte < 256) (get_or-append-add xs ys i 0) (h (length xs + i))

abbrev pub last_bytes : (form : Form) → Values form → List ℕ
last_bytes end values = []
last_bytes all values = values
last_bytes (skip count form) values = last_bytes form values.1
last_bytes (field then form) values = last_bytes form values.1

pub last_fits : (form : Form) (values : Values form) → IsBytes (spelled form values) → IsBytes (last_bytes form values)
last_fits end values h = h
last_fits all values h = h
last_fits (skip count form) values h = last_fits form values.1 (IsBytes-right values.0 (spelled form values.1) h)
last_fits (field then form) values h = last_fits form values.1 (IsBytes-right (field_bytes field values.0) (spelled form values.1) h)
