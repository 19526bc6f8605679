-- For each message: what is read as it has its spelling, and its spelling is read as it.
use Rattle.std.proofs.Common.{◌≡◌, ℕ, ◌^◌, ◌<◌, ℤ, pos, negsuc, true, eqb, ltb, leb, List, [], ◌++◌, length, Option, Some, refl, sym, ap, subst, ◌∙◌, arith}
use Rattle.std.specs.List.{list_all}
use Rattle.std.specs.Prelude.{drop, take}
use Rattle.std.specs.Int.{w8, w16, w32, w64, to_le_bytes, cast_signed, cast_unsigned}
use Rattle.std.proofs.Math.Seq.{drop-append_seam, take-append_seam}
use Rattle.std.proofs.lemmas.List.{append-nil, length-append, length-take-le, take-append-drop}
use Rattle.std.proofs.lemmas.Option.{same_Some}
use Rattle.std.proofs.lemmas.Bool.{eqb-true, le-leb, leb-true, ltb-true, and_parts}
use Rattle.std.proofs.lemmas.Bool.Decides.{nat_tests}
use Rattle.std.proofs.lemmas.Int.{of_z-to_z, to_z-of_z}
use mir.Val.{SFits}
use Rattle.qx_types.specs.declared.flags.OFlags.{OFlags}
use Rattle.qx_types.specs.declared.limits.TheConstants.Limits.{PATH}
use Rattle.qx_types.specs.declared.flags.Conds.{Conds}
use Rattle.qx_types.specs.declared.names.Coid.{Coid}
use Rattle.qx_wire.specs.declared.message.Message.{Message}
use Rattle.qx_wire.specs.declared.message.Message.TheVariants as msg
use Rattle.qx_types.specs.declared.fields.Whence.{Whence}
use Rattle.qx_types.specs.declared.fields.NotifyAction.{NotifyAction}
use Rattle.qx_types.specs.declared.fields.PulseValue.TheVariants.{Bits32, Bits64}
use Rattle.qx_wire.specs.Rests.{joined, components_of, is_component, is_rest}
use Rattle.qx_wire.specs.Table.{row, body, in_ranges, is_i64, whence_number, action_number}
use Rattle.qx_wire.specs.Reading.{ended, open_at, mknod_at, read_at, dup_at, lseek_at, chmod_at, notify_at, notify_64_at, rename_at}
use Rattle.qx_wire.proofs.RestLemmas.{joined_components, components_joined}
use Rattle.qx_wire.proofs.FieldLemmas.{IsBytes, some_else_none, wide8, wide16, wide32, wide64, peel, put_back, number_again, ended_some}

-- the message is of that type and subtype, and its fields are the bytes
pub record Has (t s : ℕ) (bytes : List ℕ) (m : Message) : Type 0 where
  pub type : (row m).type ≡ t
  pub subtype : (row m).subtype ≡ s
  pub body : body (row m).fields ≡ bytes

-- what is read has its spelling
abbrev pub Takes : ℕ → ℕ → List ℕ → Option Message → Type 0
Takes type subtype bytes read = (m : Message) → read ≡ Some m → Has type subtype bytes m

-- one field that takes all bytes
all : (bytes spelled : List ℕ) → spelled ≡ bytes → spelled ++ [] ≡ bytes
all bytes spelled e = append-nil spelled ∙ e

-- ---- OPEN

pub open_takes : (bytes : List ℕ) → IsBytes bytes → Takes 256 1 bytes (open_at bytes)
unfolding open_at
open_takes bytes fits m e =
    let f = peel w16 (2 ^ 16) wide16 bytes _ m fits e in
    let g = peel w16 (2 ^ 16) wide16 f.rest _ m f.fits f.goes_on in
    subst (λ (m : Message). Has 256 1 bytes m) (same_Some _ _ g.goes_on) (record { type = refl; subtype = refl; body = put_back f _ (put_back g _ (all g.rest (joined (components_of g.rest)) (joined_components g.rest))) })

pub open_again : (f : OFlags) (mode : ℕ) (rest : List (List ℕ)) → in_ranges (msg.Open f mode rest) ≡ true → open_at (body (row (msg.Open f mode rest)).fields) ≡ Some (msg.Open f mode rest)
unfolding open_at
open_again f mode rest e =
    let f_fits : f.0 < 2 ^ 16 = grind (arith, nat_tests) in
    let mode_fits : mode < 2 ^ 16 = grind (arith, nat_tests) in
    let good : is_rest rest ≡ true = grind (arith, nat_tests) in
    let same = components_joined rest (and_parts (leb (length (joined rest)) PATH) (list_all is_component rest) good).1 in
    rw (number_again w16 (2 ^ 16) wide16 f.0 (to_le_bytes w16 mode ++ (joined rest ++ [])) f_fits, number_again w16 (2 ^ 16) wide16 mode (joined rest ++ []) mode_fits, append-nil, same) refl

-- ---- READ

pub read_takes : (bytes : List ℕ) → IsBytes bytes → Takes 257 0 bytes (read_at bytes)
unfolding read_at
read_takes bytes fits m e =
    let n = peel w32 (2 ^ 32) wide32 bytes _ m fits e in
    let end = ended_some n.rest (msg.Read n.n) m n.goes_on in
    subst (λ (m : Message). Has 257 0 bytes m) end.1 (record { type = refl; subtype = refl; body = put_back n [] (sym end.0) })

pub read_again : (n : ℕ) → in_ranges (msg.Read n) ≡ true → read_at (body (row (msg.Read n)).fields) ≡ Some (msg.Read n)
unfolding read_at
read_again n e =
    let fits : n < 2 ^ 32 = grind (arith, nat_tests) in
    ap (λ (k : ℕ). Some (msg.Read k)) (wide32.again n fits)

-- ---- STAT, UNLINK

pub stat_takes : (bytes : List ℕ) → Takes 256 2 bytes (Some (msg.Stat (components_of bytes)))
stat_takes bytes m e = subst (λ (m : Message). Has 256 2 bytes m) (same_Some _ _ e) (record { type = refl; subtype = refl; body = all bytes (joined (components_of bytes)) (joined_components bytes) })

pub unlink_takes : (bytes : List ℕ) → Takes 256 3 bytes (Some (msg.Unlink (components_of bytes)))
unlink_takes bytes m e = subst (λ (m : Message). Has 256 3 bytes m) (same_Some _ _ e) (record { type = refl; subtype = refl; body = all bytes (joined (components_of bytes)) (joined_components bytes) })

-- a rest alone is cut into its components
pub rest_again : (rest : List (List ℕ)) → is_rest rest ≡ true → components_of (joined rest ++ []) ≡ rest
rest_again rest good = rw append-nil (components_joined rest (and_parts (leb (length (joined rest)) PATH) (list_all is_component rest) good).1)

-- ---- MKNOD

pub mknod_takes : (bytes : List ℕ) → IsBytes bytes → Takes 256 4 bytes (mknod_at bytes)
unfolding mknod_at
mknod_takes bytes fits m e =
    let k = peel w16 (2 ^ 16) wide16 bytes _ m fits e in
    let g = peel w16 (2 ^ 16) wide16 k.rest _ m k.fits k.goes_on in
    let two = some_else_none (eqb k.n 2) (Some (msg.Mknod g.n (components_of g.rest))) m g.goes_on in
    let back : to_le_bytes w16 k.n ++ (to_le_bytes w16 g.n ++ (joined (components_of g.rest) ++ [])) ≡ bytes = put_back k _ (put_back g _ (all g.rest (joined (components_of g.rest)) (joined_components g.rest))) in
    subst (λ (m : Message). Has 256 4 bytes m) (same_Some _ _ two.1) (record { type = refl; subtype = refl; body = subst (λ (n : ℕ). to_le_bytes w16 n ++ (to_le_bytes w16 g.n ++ (joined (components_of g.rest) ++ [])) ≡ bytes) (eqb-true _ _ two.0) back })

pub mknod_again : (mode : ℕ) (rest : List (List ℕ)) → in_ranges (msg.Mknod mode rest) ≡ true → mknod_at (body (row (msg.Mknod mode rest)).fields) ≡ Some (msg.Mknod mode rest)
unfolding mknod_at
mknod_again mode rest e =
    let two : 2 < 2 ^ 16 = omega arith in
    let mode_fits : mode < 2 ^ 16 = grind (arith, nat_tests) in
    let good : is_rest rest ≡ true = grind (arith, nat_tests) in
    rw (number_again w16 (2 ^ 16) wide16 2 (to_le_bytes w16 mode ++ (joined rest ++ [])) two, number_again w16 (2 ^ 16) wide16 mode (joined rest ++ []) mode_fits, rest_again rest good) refl

-- ---- RENAME

pub rename_takes : (bytes : List ℕ) → IsBytes bytes → Takes 256 5 bytes (rename_at bytes)
unfolding rename_at
rename_takes bytes fits m e =
    let f = peel w16 (2 ^ 16) wide16 bytes _ m fits e in
    let from = take f.n f.rest in
    let to = drop f.n f.rest in
    let g = some_else_none (leb f.n (length f.rest)) (Some (msg.Rename (components_of from, components_of to))) m f.goes_on in
    let len : length (joined (components_of from)) ≡ f.n = ap length (joined_components from) ∙ length-take-le f.n f.rest (leb-true _ _ g.0) in
    let texts : joined (components_of from) ++ (joined (components_of to) ++ []) ≡ f.rest = rw (joined_components from, all to (joined (components_of to)) (joined_components to)) (take-append-drop f.n f.rest) in
    subst (λ (m : Message). Has 256 5 bytes m) (same_Some _ _ g.1) (record { type = refl; subtype = refl; body = ap (λ (n : ℕ). to_le_bytes w16 n ++ (joined (components_of from) ++ (joined (components_of to) ++ []))) len ∙ put_back f _ texts })

pub rename_again : (from to : List (List ℕ)) → in_ranges (msg.Rename (from, to)) ≡ true → rename_at (body (row (msg.Rename (from, to))).fields) ≡ Some (msg.Rename (from, to))
unfolding rename_at
rename_again from to e =
    let good : is_rest from ≡ true = grind (arith, nat_tests) in
    let good_to : is_rest to ≡ true = grind (arith, nat_tests) in
    let first = and_parts (leb (length (joined from)) PATH) (list_all is_component from) good in
    let few : length (joined from) < 2 ^ 16 = let short = leb-true _ _ first.0 in omega (arith, short) in
    let long : leb (length (joined from)) (length (joined from ++ (joined to ++ []))) ≡ true = le-leb _ _ (let sum = length-append (joined from) (joined to ++ []) in omega (arith, sum)) in
    rw (number_again w16 (2 ^ 16) wide16 (length (joined from)) (joined from ++ (joined to ++ [])) few, long, take-append_seam, drop-append_seam, rest_again to good_to, components_joined from first.1) refl

-- ---- WRITE, LIST

pub write_takes : (bytes : List ℕ) → Takes 258 0 bytes (Some (msg.Write bytes))
write_takes bytes m e = subst (λ (m : Message). Has 258 0 bytes m) (same_Some _ _ e) (record { type = refl; subtype = refl; body = append-nil bytes })

pub list_takes : (bytes : List ℕ) → Takes 263 0 bytes (Some (msg.List bytes))
list_takes bytes m e = subst (λ (m : Message). Has 263 0 bytes m) (same_Some _ _ e) (record { type = refl; subtype = refl; body = append-nil bytes })

-- ---- CLOSE, FSTAT

pub close_takes : (bytes : List ℕ) → Takes 259 0 bytes (ended bytes msg.Close)
close_takes bytes m e =
    let end = ended_some bytes msg.Close m e in
    subst (λ (m : Message). Has 259 0 bytes m) end.1 (record { type = refl; subtype = refl; body = sym end.0 })

pub fstat_takes : (bytes : List ℕ) → Takes 262 0 bytes (ended bytes msg.Fstat)
fstat_takes bytes m e =
    let end = ended_some bytes msg.Fstat m e in
    subst (λ (m : Message). Has 262 0 bytes m) end.1 (record { type = refl; subtype = refl; body = sym end.0 })

-- ---- DUP

pub dup_takes : (bytes : List ℕ) → IsBytes bytes → Takes 260 0 bytes (dup_at bytes)
unfolding dup_at
dup_takes bytes fits m e =
    let n = peel w16 (2 ^ 16) wide16 bytes _ m fits e in
    let small = some_else_none (ltb n.n 256) (ended n.rest (msg.Dup (record { 0 = n.n }))) m n.goes_on in
    let end = ended_some n.rest (msg.Dup (record { 0 = n.n })) m small.1 in
    subst (λ (m : Message). Has 260 0 bytes m) end.1 (record { type = refl; subtype = refl; body = put_back n [] (sym end.0) })

pub dup_again : (old : Coid) → in_ranges (msg.Dup old) ≡ true → dup_at (body (row (msg.Dup old)).fields) ≡ Some (msg.Dup old)
unfolding dup_at
dup_again old e =
    let fits : old.0 < 2 ^ 16 = grind (arith, nat_tests) in
    let small : ltb old.0 256 ≡ true = grind (arith, nat_tests) in
    rw (wide16.again old.0 fits, small) refl

-- ---- LSEEK

pub lseek_takes : (from : Whence) (bytes : List ℕ) → IsBytes bytes → Takes 261 (whence_number from) bytes (lseek_at from bytes)
unfolding lseek_at
lseek_takes from bytes fits m e =
    let n = peel w64 (2 ^ 64) wide64 bytes _ m fits e in
    let end = ended_some n.rest (msg.Lseek from (cast_signed w64 n.n)) m n.goes_on in
    let same : cast_unsigned w64 (cast_signed w64 n.n) ≡ n.n = of_z-to_z w64 n.n n.below in
    subst (λ (m : Message). Has 261 (whence_number from) bytes m) end.1 (record { type = refl; subtype = refl; body = subst (λ (k : ℕ). to_le_bytes w64 k ++ [] ≡ bytes) (sym same) (put_back n [] (sym end.0)) })

fits_64 : (by : ℤ) → is_i64 by ≡ true → SFits w64 by
fits_64 (pos n) e = record { sfits = ltb-true _ _ e }
fits_64 (negsuc n) e = record { sfits = ltb-true _ _ e }

bits_64 : (by : ℤ) → is_i64 by ≡ true → cast_unsigned w64 by < 2 ^ 64
bits_64 (pos n) e = let lt : n < 2 ^ 63 = ltb-true _ _ e in omega arith
bits_64 (negsuc n) e = omega arith

pub lseek_again : (from : Whence) (by : ℤ) → in_ranges (msg.Lseek from by) ≡ true → lseek_at from (body (row (msg.Lseek from by)).fields) ≡ Some (msg.Lseek from by)
unfolding lseek_at
lseek_again from by e =
    let good : is_i64 by ≡ true = (and_parts (is_i64 by) true e).0 in
    ap (λ (k : ℕ). Some (msg.Lseek from (cast_signed w64 k))) (wide64.again (cast_unsigned w64 by) (bits_64 by good)) ∙ ap (λ (z : ℤ). Some (msg.Lseek from z)) (to_z-of_z w64 by (fits_64 by good))

-- ---- CHMOD

pub chmod_takes : (bytes : List ℕ) → IsBytes bytes → Takes 264 0 bytes (chmod_at bytes)
unfolding chmod_at
chmod_takes bytes fits m e =
    let n = peel w16 (2 ^ 16) wide16 bytes _ m fits e in
    let end = ended_some n.rest (msg.Chmod n.n) m n.goes_on in
    subst (λ (m : Message). Has 264 0 bytes m) end.1 (record { type = refl; subtype = refl; body = put_back n [] (sym end.0) })

pub chmod_again : (mode : ℕ) → in_ranges (msg.Chmod mode) ≡ true → chmod_at (body (row (msg.Chmod mode)).fields) ≡ Some (msg.Chmod mode)
unfolding chmod_at
chmod_again mode e =
    let fits : mode < 2 ^ 16 = grind (arith, nat_tests) in
    ap (λ (k : ℕ). Some (msg.Chmod k)) (wide16.again mode fits)

-- ---- NOTIFY

pub notify_takes : (act : NotifyAction) (bytes : List ℕ) → IsBytes bytes → Takes 265 (action_number act) bytes (notify_at act bytes)
unfolding notify_at
notify_takes act bytes fits m e =
    let c = peel w8 (2 ^ 8) wide8 bytes _ m fits e in
    let d = peel w8 (2 ^ 8) wide8 c.rest _ m c.fits c.goes_on in
    let v = peel w32 (2 ^ 32) wide32 d.rest _ m d.fits d.goes_on in
    let end = ended_some v.rest (msg.Notify act (record { 0 = c.n }) d.n (Bits32 v.n)) m v.goes_on in
    subst (λ (m : Message). Has 265 (action_number act) bytes m) end.1 (record { type = refl; subtype = refl; body = put_back c _ (put_back d _ (put_back v [] (sym end.0))) })

pub notify_again : (act : NotifyAction) (c : Conds) (code value : ℕ) → in_ranges (msg.Notify act c code (Bits32 value)) ≡ true → notify_at act (body (row (msg.Notify act c code (Bits32 value))).fields) ≡ Some (msg.Notify act c code (Bits32 value))
unfolding notify_at
notify_again act c code value e =
    let c_fits : c.0 < 2 ^ 8 = grind (arith, nat_tests) in
    let code_fits : code < 2 ^ 8 = grind (arith, nat_tests) in
    let value_fits : value < 2 ^ 32 = grind (arith, nat_tests) in
    rw (wide8.again c.0 c_fits, wide8.again code code_fits, wide32.again value value_fits) refl

-- ---- NOTIFY64

pub notify_64_takes : (act : NotifyAction) (bytes : List ℕ) → IsBytes bytes → Takes 266 (action_number act) bytes (notify_64_at act bytes)
unfolding notify_64_at
notify_64_takes act bytes fits m e =
    let c = peel w8 (2 ^ 8) wide8 bytes _ m fits e in
    let d = peel w8 (2 ^ 8) wide8 c.rest _ m c.fits c.goes_on in
    let v = peel w64 (2 ^ 64) wide64 d.rest _ m d.fits d.goes_on in
    let end = ended_some v.rest (msg.Notify act (record { 0 = c.n }) d.n (Bits64 v.n)) m v.goes_on in
    subst (λ (m : Message). Has 266 (action_number act) bytes m) end.1 (record { type = refl; subtype = refl; body = put_back c _ (put_back d _ (put_back v [] (sym end.0))) })

pub notify_64_again : (act : NotifyAction) (c : Conds) (code value : ℕ) → in_ranges (msg.Notify act c code (Bits64 value)) ≡ true → notify_64_at act (body (row (msg.Notify act c code (Bits64 value))).fields) ≡ Some (msg.Notify act c code (Bits64 value))
unfolding notify_64_at
notify_64_again act c code value e =
    let c_fits : c.0 < 2 ^ 8 = grind (arith, nat_tests) in
    let code_fits : code < 2 ^ 8 = grind (arith, nat_tests) in
    let value_fits : value < 2 ^ 64 = grind (arith, nat_tests) in
    rw (wide8.again c.0 c_fits, wide8.again code code_fits, wide64.again value value_fits) refl
