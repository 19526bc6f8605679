-- The bytes of two paths' rests are these rests.
use Rattle.std.proofs.Common.{◌≡◌, ◌<◌, ◌^◌, ◌++◌, ◌∙◌, ℕ, List, length, true, refl, arith}
use Rattle.std.specs.Prelude.{nat_le}
use Rattle.std.specs.Int.{w16, to_le_bytes}
use Rattle.std.specs.List.{list_all}
use Rattle.std.proofs.lemmas.Bool.{leb-true, and_parts}
use Rattle.qx_types.specs.declared.limits.TheConstants.Limits.{PATH}
use Rattle.qx_wire.specs.Rests.{components_of, is_component, is_rest, joined}
use Rattle.qx_wire.proofs.RestLemmas.{two_rests}
use Rattle.qx_clients.specs.Targets.{NameTwo}

pub few_bytes : (rest : List (List ℕ)) → is_rest rest ≡ true → length (joined rest) < 2 ^ 16
few_bytes rest good =
    let short = leb-true _ _ (and_parts (nat_le (length (joined rest)) PATH) (list_all is_component rest) good).0 in
    omega (arith, short)

pub names_two : (from to : List (List ℕ)) → is_rest from ≡ true → components_of (joined from) ≡ from → components_of (joined to) ≡ to → NameTwo (to_le_bytes w16 (length (joined from)) ++ (joined from ++ joined to)) from to
names_two from to good from_is to_is =
    let are = two_rests (joined from) (joined to) (few_bytes from good) in
    (are.0, are.1 ∙ rw (from_is, to_is) refl)
