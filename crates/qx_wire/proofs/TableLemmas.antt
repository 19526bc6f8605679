-- Reading by the table is the relation of the table.
use Rattle.std.proofs.Common.{◌≡◌, ℕ, ◌^◌, ◌<◌, ◌≤◌, Bool, true, false, cond, ◌&&◌, ◌||◌, ◌⊎◌, inl, inr, pos, eqb, leb, List, [], ◌∷◌, ◌++◌, length, Option, Some, None, refl, sym, ap, subst, ◌∙◌, arith}
use Rattle.std.specs.List.{list_all}
use Rattle.std.specs.Int.{w16, w32, to_le_bytes}
use Rattle.std.proofs.lemmas.List.{append-nil, length-append}
use Rattle.std.proofs.lemmas.Option.{same_Some}
use Rattle.std.proofs.lemmas.Bool.{eqb-true, leb-true, le-leb, eq-eqb, and_parts}
use Rattle.std.proofs.lemmas.Bool.Decides.{nat_tests}
use Rattle.qx_types.specs.declared.flags.OFlags.{OFlags}
use Rattle.qx_types.specs.declared.limits.TheConstants.Limits.{BODY, COMPONENT, PATH, TRANSFER}
use Rattle.qx_wire.specs.declared.message.Message.{Message}
use Rattle.qx_wire.specs.declared.message.Message.TheVariants as msg
use Rattle.qx_wire.specs.declared.message.Meaning.{Meaning}
use Rattle.qx_wire.specs.declared.message.Meaning.TheVariants.{Known, Unknown, Malformed}
use Rattle.qx_types.specs.declared.fields.Whence.TheVariants as whence
use Rattle.qx_types.specs.declared.fields.NotifyAction.TheVariants as action
use Rattle.qx_types.specs.declared.fields.PulseValue.TheVariants.{Bits32, Bits64}
use Rattle.qx_wire.specs.Rests.{joined, components_of, is_component, is_rest}
use Rattle.qx_wire.specs.Table.{row, body, in_ranges, framed, spelling, Spells, IsOfNoKind}
use Rattle.qx_wire.specs.Laws.{IfKnown}
use Rattle.qx_wire.specs.Reading.{ended, open_at, mknod_at, read_at, rename_at, dup_at, lseek_at, chmod_at, notify_at, notify_64_at, known_or_malformed, Case, cases, meaning_found, body_cut, Frame, frame_at, frame_cut, cut, judged, judged_where, meaning}
use Rattle.qx_wire.proofs.FieldLemmas.{IsBytes, some_else_none, wide16, wide32, peel, put_back, number_again}
use Rattle.qx_wire.proofs.ReadLemmas.{Has, Takes, open_takes, open_again, stat_takes, unlink_takes, rest_again, mknod_takes, mknod_again, rename_takes, rename_again, read_takes, read_again, write_takes, list_takes, close_takes, fstat_takes, dup_takes, dup_again, lseek_takes, lseek_again, chmod_takes, chmod_again, notify_takes, notify_again, notify_64_takes, notify_64_again}

-- ---- cases

-- what a case reads is of its type and subtype, and some message is of them
pub record IsCase (bytes : List ℕ) (a : Case) : Type 0 where
  pub takes : Takes a.type a.subtype bytes a.cut
  pub kind : (m : Message) × ((row m).type ≡ a.type) × ((row m).subtype ≡ a.subtype)

infixr 20 ◌⊗◌
data AreCases (bytes : List ℕ) : List Case → Type 0 where
  none : AreCases bytes []
  ◌⊗◌ : {a : Case} {others : List Case} → IsCase bytes a → AreCases bytes others → AreCases bytes (a ∷ others)

no_flags : OFlags
no_flags = record { 0 = 0 }

are_cases : (bytes : List ℕ) → IsBytes bytes → AreCases bytes (cases bytes)
are_cases bytes fits =
    record { takes = open_takes bytes fits; kind = (msg.Open no_flags 0 [], refl, refl) } ⊗
    record { takes = stat_takes bytes; kind = (msg.Stat [], refl, refl) } ⊗
    record { takes = unlink_takes bytes; kind = (msg.Unlink [], refl, refl) } ⊗
    record { takes = mknod_takes bytes fits; kind = (msg.Mknod 0 [], refl, refl) } ⊗
    record { takes = rename_takes bytes fits; kind = (msg.Rename ([], []), refl, refl) } ⊗
    record { takes = read_takes bytes fits; kind = (msg.Read 0, refl, refl) } ⊗
    record { takes = write_takes bytes; kind = (msg.Write [], refl, refl) } ⊗
    record { takes = close_takes bytes; kind = (msg.Close, refl, refl) } ⊗
    record { takes = dup_takes bytes fits; kind = (msg.Dup (record { 0 = 0 }), refl, refl) } ⊗
    record { takes = lseek_takes whence.Set bytes fits; kind = (msg.Lseek whence.Set (pos 0), refl, refl) } ⊗
    record { takes = lseek_takes whence.Current bytes fits; kind = (msg.Lseek whence.Current (pos 0), refl, refl) } ⊗
    record { takes = lseek_takes whence.End bytes fits; kind = (msg.Lseek whence.End (pos 0), refl, refl) } ⊗
    record { takes = fstat_takes bytes; kind = (msg.Fstat, refl, refl) } ⊗
    record { takes = list_takes bytes; kind = (msg.List [], refl, refl) } ⊗
    record { takes = chmod_takes bytes fits; kind = (msg.Chmod 0, refl, refl) } ⊗
    record { takes = notify_takes action.Poll bytes fits; kind = (msg.Notify action.Poll (record { 0 = 0 }) 0 (Bits32 0), refl, refl) } ⊗
    record { takes = notify_takes action.PollArm bytes fits; kind = (msg.Notify action.PollArm (record { 0 = 0 }) 0 (Bits32 0), refl, refl) } ⊗
    record { takes = notify_takes action.TranArm bytes fits; kind = (msg.Notify action.TranArm (record { 0 = 0 }) 0 (Bits32 0), refl, refl) } ⊗
    record { takes = notify_64_takes action.Poll bytes fits; kind = (msg.Notify action.Poll (record { 0 = 0 }) 0 (Bits64 0), refl, refl) } ⊗
    record { takes = notify_64_takes action.PollArm bytes fits; kind = (msg.Notify action.PollArm (record { 0 = 0 }) 0 (Bits64 0), refl, refl) } ⊗
    record { takes = notify_64_takes action.TranArm bytes fits; kind = (msg.Notify action.TranArm (record { 0 = 0 }) 0 (Bits64 0), refl, refl) } ⊗
    none

known_one : (m n : Message) → Known m ≡ Known n → m ≡ n
known_one m n e = cc

known_cut : (o : Option Message) (m : Message) → known_or_malformed o ≡ Known m → o ≡ Some m
known_cut None m e = absurd cc
known_cut (Some y) m e = ap Some (known_one y m e)

cut_not_unknown : (o : Option Message) → known_or_malformed o ≡ Unknown → ⊥
cut_not_unknown None e = cc
cut_not_unknown (Some y) e = cc

chosen : {A : Type 0} (b : Bool) (x y z : A) → cond b x y ≡ z → ((b ≡ true) × (x ≡ z)) ⊎ ((b ≡ false) × (y ≡ z))
chosen true x y z e = inl (refl, e)
chosen false x y z e = inr (refl, e)

not_true : (b : Bool) → (b ≡ true → ⊥) → b ≡ false
not_true true h = absurd (h refl)
not_true false h = refl

-- a message that was found is the case's of that type and subtype
found_known : (t s : ℕ) (bytes : List ℕ) (list : List Case) → AreCases bytes list → (m : Message) → meaning_found t s list ≡ Known m → Has t s bytes m
found_known t s bytes [] none m e = absurd cc
found_known t s bytes (a ∷ others) (is ⊗ are) m e =
    elim (chosen (eqb t a.type && eqb s a.subtype) (known_or_malformed a.cut) (meaning_found t s others) (Known m) e) [
      | inl p ↦
          let both = and_parts (eqb t a.type) (eqb s a.subtype) p.0 in
          let has = is.takes m (known_cut a.cut m p.1) in
          record { type = has.type ∙ sym (eqb-true _ _ both.0); subtype = has.subtype ∙ sym (eqb-true _ _ both.1); body = has.body }
      | inr p ↦ found_known t s bytes others are m p.1
    ]

-- nothing is found where no message is of that type and subtype
not_found : (t s : ℕ) (bytes : List ℕ) (list : List Case) → AreCases bytes list → ((m : Message) → (row m).type ≡ t → (row m).subtype ≡ s → ⊥) → meaning_found t s list ≡ Unknown
not_found t s bytes [] none absent = refl
not_found t s bytes (a ∷ others) (is ⊗ are) absent =
    let k = is.kind in
    let other : (eqb t a.type && eqb s a.subtype) ≡ false = not_true (eqb t a.type && eqb s a.subtype) (λ h. let both = and_parts (eqb t a.type) (eqb s a.subtype) h in absent k.0 (k.1 ∙ sym (eqb-true _ _ both.0)) (k.2 ∙ sym (eqb-true _ _ both.1))) in
    rw other (not_found t s bytes others are absent)

-- each message is of the type and subtype of a case
has_case : (m : Message) (bytes : List ℕ) → meaning_found (row m).type (row m).subtype (cases bytes) ≡ Unknown → ⊥
has_case (msg.Open f mode rest) bytes e = cut_not_unknown (open_at bytes) e
has_case (msg.Stat rest) bytes e = cut_not_unknown (Some (msg.Stat (components_of bytes))) e
has_case (msg.Unlink rest) bytes e = cut_not_unknown (Some (msg.Unlink (components_of bytes))) e
has_case (msg.Mknod mode rest) bytes e = cut_not_unknown (mknod_at bytes) e
has_case (msg.Rename rests) bytes e = cut_not_unknown (rename_at bytes) e
has_case (msg.Read n) bytes e = cut_not_unknown (read_at bytes) e
has_case (msg.Write payload) bytes e = cut_not_unknown (Some (msg.Write bytes)) e
has_case msg.Close bytes e = cut_not_unknown (ended bytes msg.Close) e
has_case (msg.Dup old) bytes e = cut_not_unknown (dup_at bytes) e
has_case (msg.Lseek whence.Set by) bytes e = cut_not_unknown (lseek_at whence.Set bytes) e
has_case (msg.Lseek whence.Current by) bytes e = cut_not_unknown (lseek_at whence.Current bytes) e
has_case (msg.Lseek whence.End by) bytes e = cut_not_unknown (lseek_at whence.End bytes) e
has_case msg.Fstat bytes e = cut_not_unknown (ended bytes msg.Fstat) e
has_case (msg.List after) bytes e = cut_not_unknown (Some (msg.List bytes)) e
has_case (msg.Chmod mode) bytes e = cut_not_unknown (chmod_at bytes) e
has_case (msg.Notify action.Poll c code (Bits32 value)) bytes e = cut_not_unknown (notify_at action.Poll bytes) e
has_case (msg.Notify action.Poll c code (Bits64 value)) bytes e = cut_not_unknown (notify_64_at action.Poll bytes) e
has_case (msg.Notify action.PollArm c code (Bits32 value)) bytes e = cut_not_unknown (notify_at action.PollArm bytes) e
has_case (msg.Notify action.PollArm c code (Bits64 value)) bytes e = cut_not_unknown (notify_64_at action.PollArm bytes) e
has_case (msg.Notify action.TranArm c code (Bits32 value)) bytes e = cut_not_unknown (notify_at action.TranArm bytes) e
has_case (msg.Notify action.TranArm c code (Bits64 value)) bytes e = cut_not_unknown (notify_64_at action.TranArm bytes) e

-- a message in ranges, as its body is read
pub record IsRead (m : Message) : Type 0 where
  pub again : meaning_found (row m).type (row m).subtype (cases (body (row m).fields)) ≡ Known m
  pub type : (row m).type < 2 ^ 16
  pub subtype : (row m).subtype < 2 ^ 16
  pub short : length (body (row m).fields) ≤ BODY

rest_short : (rest : List (List ℕ)) → is_rest rest ≡ true → length (joined rest ++ []) ≤ PATH
rest_short rest good =
    let short : length (joined rest) ≤ PATH = leb-true _ _ (and_parts (leb (length (joined rest)) PATH) (list_all is_component rest) good).0 in
    omega (arith, length-append (joined rest) [])

rename_short : (from to : List (List ℕ)) → is_rest from ≡ true → is_rest to ≡ true → length (to_le_bytes w16 (length (joined from)) ++ (joined from ++ (joined to ++ []))) ≤ BODY
rename_short from to good good_to =
    let first = rest_short from good in
    let second = rest_short to good_to in
    let one = length-append (joined from) [] in
    let len = wide16.len (length (joined from)) in
    let all = length-append (to_le_bytes w16 (length (joined from))) (joined from ++ (joined to ++ [])) in
    let both = length-append (joined from) (joined to ++ []) in
    omega (arith, first, second, one, len, all, both)

name_short : (after : List ℕ) → (eqb (length after) 0 || is_component after) ≡ true → length after ≤ COMPONENT
name_short after good = grind (arith, nat_tests)

plain_short : (bytes : List ℕ) (n : ℕ) → length bytes ≤ n → length (bytes ++ []) ≤ n
plain_short bytes n le = omega (arith, length-append bytes [])

is_read : (m : Message) → in_ranges m ≡ true → IsRead m
is_read (msg.Open f mode rest) e = record { again = ap known_or_malformed (open_again f mode rest e); type = omega arith; subtype = omega arith; short = let r = rest_short rest (grind (arith, nat_tests)) in omega arith }
is_read (msg.Stat rest) e = record { again = ap known_or_malformed (ap (λ (r : List (List ℕ)). Some (msg.Stat r)) (rest_again rest (and_parts (is_rest rest) true e).0)); type = omega arith; subtype = omega arith; short = let r = rest_short rest (and_parts (is_rest rest) true e).0 in omega arith }
is_read (msg.Unlink rest) e = record { again = ap known_or_malformed (ap (λ (r : List (List ℕ)). Some (msg.Unlink r)) (rest_again rest (and_parts (is_rest rest) true e).0)); type = omega arith; subtype = omega arith; short = let r = rest_short rest (and_parts (is_rest rest) true e).0 in omega arith }
is_read (msg.Mknod mode rest) e = record { again = ap known_or_malformed (mknod_again mode rest e); type = omega arith; subtype = omega arith; short = let r = rest_short rest (grind (arith, nat_tests)) in omega arith }
is_read (msg.Rename rests) e = record { again = ap known_or_malformed (rename_again rests.0 rests.1 e); type = omega arith; subtype = omega arith; short = rename_short rests.0 rests.1 (grind (arith, nat_tests)) (grind (arith, nat_tests)) }
is_read (msg.Read n) e = record { again = ap known_or_malformed (read_again n e); type = omega arith; subtype = omega arith; short = omega arith }
is_read (msg.Write payload) e = record { again = ap known_or_malformed (ap (λ (b : List ℕ). Some (msg.Write b)) (append-nil payload)); type = omega arith; subtype = omega arith; short = let r = plain_short payload TRANSFER (leb-true _ _ (and_parts (leb (length payload) TRANSFER) true e).0) in omega arith }
is_read (msg.Dup old) e = record { again = ap known_or_malformed (dup_again old e); type = omega arith; subtype = omega arith; short = omega arith }
is_read (msg.Lseek whence.Set by) e = record { again = ap known_or_malformed (lseek_again whence.Set by e); type = omega arith; subtype = omega arith; short = omega arith }
is_read (msg.Lseek whence.Current by) e = record { again = ap known_or_malformed (lseek_again whence.Current by e); type = omega arith; subtype = omega arith; short = omega arith }
is_read (msg.Lseek whence.End by) e = record { again = ap known_or_malformed (lseek_again whence.End by e); type = omega arith; subtype = omega arith; short = omega arith }
is_read (msg.List after) e = record { again = ap known_or_malformed (ap (λ (b : List ℕ). Some (msg.List b)) (append-nil after)); type = omega arith; subtype = omega arith; short = let r = plain_short after COMPONENT (name_short after (and_parts (eqb (length after) 0 || is_component after) true e).0) in omega arith }
is_read (msg.Chmod mode) e = record { again = ap known_or_malformed (chmod_again mode e); type = omega arith; subtype = omega arith; short = omega arith }
is_read (msg.Notify action.Poll c code (Bits32 value)) e = record { again = ap known_or_malformed (notify_again action.Poll c code value e); type = omega arith; subtype = omega arith; short = omega arith }
is_read (msg.Notify action.Poll c code (Bits64 value)) e = record { again = ap known_or_malformed (notify_64_again action.Poll c code value e); type = omega arith; subtype = omega arith; short = omega arith }
is_read (msg.Notify action.PollArm c code (Bits32 value)) e = record { again = ap known_or_malformed (notify_again action.PollArm c code value e); type = omega arith; subtype = omega arith; short = omega arith }
is_read (msg.Notify action.PollArm c code (Bits64 value)) e = record { again = ap known_or_malformed (notify_64_again action.PollArm c code value e); type = omega arith; subtype = omega arith; short = omega arith }
is_read (msg.Notify action.TranArm c code (Bits32 value)) e = record { again = ap known_or_malformed (notify_again action.TranArm c code value e); type = omega arith; subtype = omega arith; short = omega arith }
is_read (msg.Notify action.TranArm c code (Bits64 value)) e = record { again = ap known_or_malformed (notify_64_again action.TranArm c code value e); type = omega arith; subtype = omega arith; short = omega arith }
is_read msg.Close e = record { again = refl; type = omega arith; subtype = omega arith; short = omega arith }
is_read msg.Fstat e = record { again = refl; type = omega arith; subtype = omega arith; short = omega arith }

-- ---- frames

pub record IsFrame (bytes : List ℕ) (f : Frame) : Type 0 where
  pub parts : bytes ≡ framed f.type f.subtype f.body
  pub type : f.type < 2 ^ 16
  pub subtype : f.subtype < 2 ^ 16
  pub short : length f.body ≤ BODY
  pub fits : IsBytes f.body

frame_takes : (bytes : List ℕ) (f : Frame) → IsBytes bytes → frame_at bytes ≡ Some f → IsFrame bytes f
unfolding frame_at
frame_takes bytes f fits e =
    let t = peel w16 (2 ^ 16) wide16 bytes _ f fits e in
    let s = peel w16 (2 ^ 16) wide16 t.rest _ f t.fits t.goes_on in
    let l = peel w32 (2 ^ 32) wide32 s.rest _ f s.fits s.goes_on in
    let made : Frame = record { type = t.n; subtype = s.n; body = l.rest } in
    let g = some_else_none (eqb (length l.rest) l.n && leb l.n BODY) (Some made) f l.goes_on in
    let both = and_parts (eqb (length l.rest) l.n) (leb l.n BODY) g.0 in
    let len : length l.rest ≡ l.n = eqb-true _ _ both.0 in
    let back : to_le_bytes w16 t.n ++ (to_le_bytes w16 s.n ++ (to_le_bytes w32 l.n ++ l.rest)) ≡ bytes = put_back t _ (put_back s _ (put_back l _ refl)) in
    let short : l.n ≤ BODY = leb-true _ _ both.1 in
    subst (λ (f : Frame). IsFrame bytes f) (same_Some _ _ g.1) (record {
      parts = sym (subst (λ (n : ℕ). to_le_bytes w16 t.n ++ (to_le_bytes w16 s.n ++ (to_le_bytes w32 n ++ l.rest)) ≡ bytes) (sym len) back);
      type = t.below;
      subtype = s.below;
      short = omega arith;
      fits = l.fits;
    })

frame_again : (t s : ℕ) (b : List ℕ) → t < 2 ^ 16 → s < 2 ^ 16 → length b ≤ BODY → frame_at (framed t s b) ≡ Some (record { type = t; subtype = s; body = b })
unfolding frame_at
frame_again t s b t_fits s_fits short =
    let len_fits : length b < 2 ^ 32 = omega arith in
    let same : eqb (length b) (length b) ≡ true = eq-eqb _ _ refl in
    let few : leb (length b) BODY ≡ true = le-leb _ _ short in
    rw (number_again w16 (2 ^ 16) wide16 t (to_le_bytes w16 s ++ (to_le_bytes w32 (length b) ++ b)) t_fits, number_again w16 (2 ^ 16) wide16 s (to_le_bytes w32 (length b) ++ b) s_fits, number_again w32 (2 ^ 32) wide32 (length b) b len_fits, same, few) refl

in_frame : (o : Option Frame) (meant : Meaning) → frame_cut o ≡ meant → (meant ≡ Malformed → ⊥) → (f : Frame) × (o ≡ Some f) × (body_cut f.type f.subtype f.body ≡ meant)
in_frame None meant e other = absurd (other (sym e))
in_frame (Some f) meant e other = (f, refl, e)

-- ---- judging

judged_known : (c : Meaning) (m : Message) → judged c ≡ Known m → (c ≡ Known m) × (in_ranges m ≡ true)
judged_known Unknown m e = absurd cc
judged_known Malformed m e = absurd cc
judged_known (Known y) m e = elim (in_ranges y) as (λ v. in_ranges y ≡ v → cond v (Known y) Malformed ≡ Known m → (Known y ≡ Known m) × (in_ranges m ≡ true)) [
  | true ↦ λ good h. (h, subst (λ (z : Message). in_ranges z ≡ true) (known_one y m h) good)
  | false ↦ λ good h. absurd cc
] refl e

judged_unknown : (c : Meaning) → judged c ≡ Unknown → c ≡ Unknown
judged_unknown Unknown e = refl
judged_unknown Malformed e = absurd cc
judged_unknown (Known y) e = absurd (elim (in_ranges y) as (λ v. cond v (Known y) Malformed ≡ Unknown → ⊥) [ true ↦ λ h. cc | false ↦ λ h. cc ] e)

-- ---- the laws

cut_spelling : (bytes : List ℕ) (m : Message) → IsBytes bytes → cut bytes ≡ Known m → bytes ≡ spelling m
unfolding cut body_cut spelling
cut_spelling bytes m fits e =
    let f = in_frame (frame_at bytes) (Known m) e (λ h. cc) in
    let frame = frame_takes bytes f.0 fits f.1 in
    let has = found_known f.0.type f.0.subtype f.0.body (cases f.0.body) (are_cases f.0.body frame.fits) m f.2 in
    rw (has.type, has.subtype, has.body) frame.parts

pub known_spells : (bytes : List ℕ) (m : Message) → IsBytes bytes → meaning bytes ≡ Known m → Spells m bytes
unfolding meaning
known_spells bytes m fits e =
    let j = judged_known (cut bytes) m e in
    (j.1, cut_spelling bytes m fits j.0)

pub spells_known : (bytes : List ℕ) (m : Message) → Spells m bytes → meaning bytes ≡ Known m
unfolding meaning cut body_cut spelling
spells_known bytes m spells =
    let r = is_read m spells.0 in
    let same : cut (spelling m) ≡ Known m = ap frame_cut (frame_again (row m).type (row m).subtype (body (row m).fields) r.type r.subtype r.short) ∙ r.again in
    ap meaning spells.1 ∙ ap judged same ∙ rw spells.0 refl

pub unknown_of_no_kind : (bytes : List ℕ) → IsBytes bytes → meaning bytes ≡ Unknown → IsOfNoKind bytes
unfolding meaning cut body_cut
unknown_of_no_kind bytes fits e =
    let f = in_frame (frame_at bytes) Unknown (judged_unknown (cut bytes) e) (λ h. cc) in
    let frame = frame_takes bytes f.0 fits f.1 in
    record {
      type = f.0.type;
      subtype = f.0.subtype;
      body = f.0.body;
      frame = frame.parts;
      two_bytes = (frame.type, frame.subtype);
      fits = frame.short;
      no_kind = λ m t s. has_case m f.0.body (rw (t, s) f.2);
    }

pub of_no_kind_unknown : (bytes : List ℕ) → IsBytes bytes → IsOfNoKind bytes → meaning bytes ≡ Unknown
unfolding meaning cut body_cut
of_no_kind_unknown bytes fits k =
    let again = frame_again k.type k.subtype k.body k.two_bytes.0 k.two_bytes.1 k.fits in
    let body_fits = (frame_takes bytes (record { type = k.type; subtype = k.subtype; body = k.body }) fits (ap frame_at k.frame ∙ again)).fits in
    ap meaning k.frame ∙ ap judged (ap frame_cut again ∙ not_found k.type k.subtype k.body (cases k.body) (are_cases k.body body_fits) k.no_kind)

-- bytes spell at most one message
pub one_message : (bytes : List ℕ) (m n : Message) → Spells m bytes → Spells n bytes → m ≡ n
one_message bytes m n p q = known_one m n (sym (spells_known bytes m p) ∙ spells_known bytes n q)

-- what bytes are cut into has their spelling
pub cut_spelled : (bytes : List ℕ) → IsBytes bytes → (c : Meaning) → c ≡ cut bytes → IfKnown c (λ m. bytes ≡ spelling m)
cut_spelled bytes fits (Known m) e = cut_spelling bytes m fits (sym e)
cut_spelled bytes fits Unknown e = tt
cut_spelled bytes fits Malformed e = tt

pub meant_spells : (bytes : List ℕ) (c : Meaning) → c ≡ meaning bytes → IfKnown c (λ m. bytes ≡ spelling m) → IfKnown c (λ m. Spells m bytes)
unfolding meaning
meant_spells bytes (Known m) e spelled = ((judged_known (cut bytes) m (sym e)).1, spelled)
meant_spells bytes Unknown e spelled = tt
meant_spells bytes Malformed e spelled = tt

-- ---- what is judged only where that is asked for

pub judged_where-unknown : (judges : Bool) → Unknown ≡ judged_where judges Unknown
judged_where-unknown true = refl
judged_where-unknown false = refl

-- what holds of a message holds of it where it is judged too
pub judged_where-kept : (P : Message → Type 0) (judges : Bool) (c : Meaning) → IfKnown c P → IfKnown (judged_where judges c) P
judged_where-kept P false c holds = holds
judged_where-kept P true Unknown holds = holds
judged_where-kept P true Malformed holds = holds
judged_where-kept P true (Known m) holds = by_ranges (in_ranges m) holds
  where
    by_ranges : (in_them : Bool) → P m → IfKnown (cond in_them (Known m) Malformed) P
    by_ranges true it = it
    by_ranges false it = tt
