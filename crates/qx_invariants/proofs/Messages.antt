-- The paths in the messages that bytes mean are of components.
use Rattle.std.proofs.Common.{◌≡◌, ℕ, Bool, true, false, ◌&&◌, List, [], ◌∷◌, length, refl, sym, ap, ◌∙◌}
use Rattle.std.specs.Prelude.{nat_le, if◌then◌else◌}
use Rattle.std.specs.List.{list_all}
use Rattle.std.proofs.lemmas.Bool.{and_parts}
use Rattle.qx_types.specs.declared.limits.TheConstants.Limits.{PATH}
use Rattle.qx_wire.specs.declared.message.Meaning.{Meaning}
use Rattle.qx_wire.specs.declared.message.Meaning.TheVariants.{Known, Unknown, Malformed}
use Rattle.qx_wire.specs.declared.message.Message.{Message}
use Rattle.qx_wire.specs.declared.message.Message.TheVariants as msg
use Rattle.qx_wire.specs.Reading.{cut, judged, meaning}
use Rattle.qx_wire.specs.Rests.{is_component, is_rest, joined}
use Rattle.qx_wire.specs.Table.{flags, in_ranges, mode, rest_length}
use Rattle.qx_invariants.proofs.Deeds.{NamesComponents}
use Rattle.qx_invariants.proofs.Spots.{AreComponents}

components : (names : List (List ℕ)) → list_all is_component names ≡ true → AreComponents names
components [] is = tt
components (name ∷ names) is = ((and_parts (is_component name) (list_all is_component names) is).0, components names ((and_parts (is_component name) (list_all is_component names) is).1))

rest-components : (rest : List (List ℕ)) → (is_rest rest && true) ≡ true → AreComponents rest
rest-components rest is = components rest ((and_parts (nat_le (length (joined rest)) PATH) (list_all is_component rest) ((and_parts (is_rest rest) true is).0)).1)

ranged : (message : Message) → in_ranges message ≡ true → NamesComponents message
ranged (msg.Open f m rest) is = rest-components rest ((and_parts (mode m).good (is_rest rest && true) ((and_parts (flags f.0).good ((mode m).good && (is_rest rest && true)) is).1)).1)
ranged (msg.Unlink rest) is = rest-components rest is
ranged (msg.Mknod m rest) is = rest-components rest ((and_parts (mode m).good (is_rest rest && true) is).1)
ranged (msg.Rename rests) is =
    let both = and_parts (is_rest rests.0) (is_rest rests.1 && true) ((and_parts (rest_length rests.0).good (is_rest rests.0 && (is_rest rests.1 && true)) is).1) in
    (components rests.0 ((and_parts (nat_le (length (joined rests.0)) PATH) (list_all is_component rests.0) both.0).1), rest-components rests.1 both.1)
ranged _ is = tt

by_cut : (given : Meaning) (message : Message) → judged given ≡ Known message → NamesComponents message
by_cut Unknown message is = absurd (cc)
by_cut Malformed message is = absurd (cc)
by_cut (Known other) message is = by (in_ranges other) refl is
  where
    by : (b : Bool) → in_ranges other ≡ b → (if b then Known other else Malformed) ≡ Known message → NamesComponents message
    by true ranges e = let same : other ≡ message = cc in ranged message (ap in_ranges (sym same) ∙ ranges)
    by false ranges e = absurd (cc)

pub meaning-components : (bytes : List ℕ) (message : Message) → meaning bytes ≡ Known message → NamesComponents message
unfolding meaning
meaning-components bytes message is = by_cut (cut bytes) message is
