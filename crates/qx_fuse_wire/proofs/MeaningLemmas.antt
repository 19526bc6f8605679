-- Bytes mean a request exactly if they spell it.
use Rattle.std.proofs.Common.{◌≡◌, ℕ, ◌+◌, ◌-◌, ◌≤◌, Bool, true, false, cond, ◌&&◌, ◌⊎◌, inl, inr, eqb, leb, List, [], ◌∷◌, ◌++◌, length, take, drop, Option, Some, None, refl, sym, ap, subst, ◌∙◌, arith, length-append, length-drop}
use Rattle.std.proofs.lemmas.Bool.{and_parts, and_from, eqb-true, eq-eqb, leb-true, le-leb}
use Rattle.std.proofs.lemmas.List.{take-append-drop, take_at}
use Rattle.std.proofs.lemmas.Option.{same_Some}
use Rattle.qx_wire.proofs.FieldLemmas.{IsBytes, IsBytes-take}
use Rattle.qx_fuse_wire.specs.declared.body.Header.{Header}
use Rattle.qx_fuse_wire.specs.declared.body.Body.{Body}
use Rattle.qx_fuse_wire.specs.declared.body.Meaning.{Meaning}
use Rattle.qx_fuse_wire.specs.declared.body.Meaning.TheVariants.{Known, Malformed, Short, Unknown}
use Rattle.qx_fuse_wire.specs.Forms.{read, spelled}
use Rattle.qx_fuse_wire.specs.Laws.{IsOfNoLine, ReplyLength, Spells, line_for}
use Rattle.qx_fuse_wire.specs.Meaning.{body_meaning, extension_length, found, framed, header_at, known_or_malformed, meaning}
use Rattle.qx_fuse_wire.specs.Replies.{body_bytes, error_number, header_bytes, reply_bytes}
use Rattle.qx_fuse_wire.specs.Table.{Line, header_form, header_made, read_line, table}
use Rattle.qx_fuse_wire.proofs.FormLemmas.{form_again, form_within, last_bytes, last_fits}

chosen : {A : Type 0} (b : Bool) (x y z : A) → cond b x y ≡ z → ((b ≡ true) × (x ≡ z)) ⊎ ((b ≡ false) × (y ≡ z))
chosen true x y z e = inl (refl, e)
chosen false x y z e = inr (refl, e)

known_of : (h : Header) (o : Option Body) (k : Header) (body : Body) → known_or_malformed h o ≡ Known k body → (o ≡ Some body) × (h ≡ k)
known_of h None k body e = absurd cc
known_of h (Some b) k body e = let same : b ≡ body = cc in (ap Some same, cc)

not_malformed : (h k : Header) (body : Body) → Malformed h ≡ Known k body → ⊥
not_malformed h k body e = cc

-- ---- the line

found_known : (h : Header) (lines : List Line) (bytes : List ℕ) (k : Header) (body : Body) → found h lines bytes ≡ Known k body
    → (line : Line) × (line_for lines h.opcode ≡ Some line) × (read_line line bytes ≡ Some body) × (h ≡ k)
found_known h [] bytes k body e = absurd cc
found_known h (line ∷ lines) bytes k body e =
    elim (chosen (eqb h.opcode line.opcode) (known_or_malformed h (read_line line bytes)) (found h lines bytes) (Known k body) e) [
      | inl p ↦ let it = known_of h (read_line line bytes) k body p.1 in (line, rw p.0 refl, it.0, it.1)
      | inr p ↦ let it = found_known h lines bytes k body p.1 in (it.0, rw p.0 it.1, it.2, it.3)
    ]

found_again : (h : Header) (lines : List Line) (bytes : List ℕ) (line : Line) (body : Body) → line_for lines h.opcode ≡ Some line → read_line line bytes ≡ Some body
    → found h lines bytes ≡ Known h body
found_again h [] bytes line body e is = absurd cc
found_again h (first ∷ lines) bytes line body e is =
    elim (chosen (eqb h.opcode first.opcode) (Some first) (line_for lines h.opcode) (Some line) e) [
      | inl p ↦ rw p.0 (subst (λ (it : Line). known_or_malformed h (read_line it bytes) ≡ Known h body) (sym (same_Some _ _ p.1)) (ap (known_or_malformed h) is))
      | inr p ↦ rw p.0 (found_again h lines bytes line body p.1 is)
    ]

known_not_unknown : (h : Header) (o : Option Body) (k : Header) → known_or_malformed h o ≡ Unknown k → ⊥
known_not_unknown h None k e = cc
known_not_unknown h (Some b) k e = cc

found_unknown : (h : Header) (lines : List Line) (bytes : List ℕ) (k : Header) → found h lines bytes ≡ Unknown k → (line_for lines h.opcode ≡ None) × (h ≡ k)
found_unknown h [] bytes k e = (refl, cc)
found_unknown h (line ∷ lines) bytes k e =
    elim (chosen (eqb h.opcode line.opcode) (known_or_malformed h (read_line line bytes)) (found h lines bytes) (Unknown k) e) [
      | inl p ↦ absurd (known_not_unknown h (read_line line bytes) k p.1)
      | inr p ↦ let it = found_unknown h lines bytes k p.1 in (rw p.0 it.0, it.1)
    ]

found_none : (h : Header) (lines : List Line) (bytes : List ℕ) → line_for lines h.opcode ≡ None → found h lines bytes ≡ Unknown h
found_none h [] bytes e = refl
found_none h (first ∷ lines) bytes e =
    elim (chosen (eqb h.opcode first.opcode) (Some first) (line_for lines h.opcode) None e) [
      | inl p ↦ let no : ⊥ = let is = p.1 in cc in absurd no
      | inr p ↦ rw p.0 (found_none h lines bytes p.1)
    ]

-- ---- the header

-- a header, what stands behind it, and that both agree with the size
record IsFramed (size : ℕ) (o : Option (Header × List ℕ)) (m : Meaning) : Type 0 where
  pub header : Header
  pub rest : List ℕ
  pub is : o ≡ Some (header, rest)
  pub long : header.length ≡ size
  pub extended : extension_length header ≤ length rest
  pub means : body_meaning header (take (length rest - extension_length header) rest) ≡ m

framed_is : (size : ℕ) (o : Option (Header × List ℕ)) (m : Meaning) → (Short ≡ m → ⊥) → ((h : Header) → Malformed h ≡ m → ⊥) → framed size o ≡ m → IsFramed size o m
framed_is size None m short malformed e = absurd (short e)
framed_is size (Some (header, rest)) m short malformed e =
    elim (chosen (eqb header.length size && leb (extension_length header) (length rest)) (body_meaning header (take (length rest - extension_length header) rest)) (Malformed header) m e) [
      | inl p ↦
          let both = and_parts (eqb header.length size) (leb (extension_length header) (length rest)) p.0 in
          record { header = header; rest = rest; is = refl; long = eqb-true _ _ both.0; extended = leb-true _ _ both.1; means = p.1 }
      | inr p ↦ absurd (malformed header p.1)
    ]

pub known_spells : (bytes : List ℕ) (k : Header) (body : Body) → IsBytes bytes → meaning bytes ≡ Known k body → Spells k body bytes
unfolding meaning header_at body_meaning
known_spells bytes k body fits e =
    let f = framed_is (length bytes) (header_at bytes) (Known k body) (λ h. cc) (λ h. not_malformed h k body) e in
    let head = form_within header_form header_made bytes (f.header, f.rest) fits f.is in
    let last : last_bytes header_form head.values ≡ f.rest = ap (λ (x : Header × List ℕ). x.1) (same_Some _ _ head.makes) in
    let rest_fits : IsBytes f.rest = subst IsBytes last (last_fits header_form head.values (subst IsBytes (sym head.spells) fits)) in
    let count = length f.rest - extension_length f.header in
    let line = found_known f.header table (take count f.rest) k body f.means in
    let fields = form_within line.0.form line.0.made (take count f.rest) body (IsBytes-take count f.rest rest_fits) line.2 in
    let whole : f.rest ≡ spelled line.0.form fields.values ++ drop count f.rest = sym (ap (λ (x : List ℕ). x ++ drop count f.rest) fields.spells ∙ take-append-drop count f.rest) in
    let all : Spells f.header body bytes = record {
      line = line.0;
      opcode = line.1;
      fields = record { values = fields.values; can = fields.can; makes = fields.makes };
      extensions = drop count f.rest;
      extended = omega (arith, length-drop count f.rest, f.extended);
      head = record { values = head.values; can = head.can; makes = head.makes ∙ ap (λ (rest : List ℕ). Some (f.header, rest)) whole };
      are = head.spells;
      long = f.long;
    } in
    subst (λ (header : Header). Spells header body bytes) line.3 all

pub spells_known : (bytes : List ℕ) (k : Header) (body : Body) → Spells k body bytes → meaning bytes ≡ Known k body
unfolding meaning header_at body_meaning
spells_known bytes k body s =
    let own = spelled s.line.form s.fields.values in
    let head : header_at bytes ≡ Some (k, own ++ s.extensions) = ap (read header_form header_made) (sym s.are) ∙ form_again header_form header_made s.head.values s.head.can ∙ s.head.makes in
    let lengths = length-append own s.extensions in
    let test : (eqb k.length (length bytes) && leb (extension_length k) (length (own ++ s.extensions))) ≡ true =
    and_from _ _ (eq-eqb _ _ s.long) (le-leb _ _ (omega (arith, lengths, s.extended))) in
    let front : take (length (own ++ s.extensions) - extension_length k) (own ++ s.extensions) ≡ own =
    take_at own s.extensions _ (omega (arith, lengths, s.extended)) in
    let is : read_line s.line own ≡ Some body = form_again s.line.form s.line.made s.fields.values s.fields.can ∙ s.fields.makes in
    ap (framed (length bytes)) head ∙ rw (test, front) (found_again k table own s.line body s.opcode is)

pub unknown_of_no_line : (bytes : List ℕ) (k : Header) → IsBytes bytes → meaning bytes ≡ Unknown k → IsOfNoLine k bytes
unfolding meaning header_at body_meaning
unknown_of_no_line bytes k fits e =
    let f = framed_is (length bytes) (header_at bytes) (Unknown k) (λ h. cc) (λ h i. cc) e in
    let head = form_within header_form header_made bytes (f.header, f.rest) fits f.is in
    let none = found_unknown f.header table (take (length f.rest - extension_length f.header) f.rest) k f.means in
    let all : IsOfNoLine f.header bytes = record {
      rest = f.rest;
      head = record { values = head.values; can = head.can; makes = head.makes };
      are = head.spells;
      long = f.long;
      extended = f.extended;
      no_line = none.0;
    } in
    subst (λ (header : Header). IsOfNoLine header bytes) none.1 all

pub of_no_line_unknown : (bytes : List ℕ) (k : Header) → IsOfNoLine k bytes → meaning bytes ≡ Unknown k
unfolding meaning header_at body_meaning
of_no_line_unknown bytes k s =
    let head : header_at bytes ≡ Some (k, s.rest) = ap (read header_form header_made) (sym s.are) ∙ form_again header_form header_made s.head.values s.head.can ∙ s.head.makes in
    let test : (eqb k.length (length bytes) && leb (extension_length k) (length s.rest)) ≡ true =
    and_from _ _ (eq-eqb _ _ s.long) (le-leb _ _ s.extended) in
    ap (framed (length bytes)) head ∙ rw test (found_none k table (take (length s.rest - extension_length k) s.rest) s.no_line)

pub reply_length : ReplyLength
unfolding reply_bytes
reply_length unique it = length-append (header_bytes (16 + length (body_bytes it)) (error_number it) unique) (body_bytes it)
