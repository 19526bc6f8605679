-- What a call goes over, and what it names.
use Rattle.std.specs.Prelude.{◌≡◌, ℕ, ⊤, List, []}
use Rattle.qx_types.specs.declared.request.Request.{Request}
use Rattle.qx_types.specs.declared.request.Request.TheVariants.{OpenPath, StatPath, Unlink, Mkdir, Rename}
use Rattle.qx_wire.specs.Rests.{AreRests, components_of, rests_of}
use Rattle.qx_machine.specs.declared.rows.Over.{Over}
use Rattle.qx_machine.specs.declared.rows.Over.TheVariants.{Existing}

-- what goes over a connection that is there names no path
abbrev pub HasRest : Over → List (List ℕ) → List (List ℕ) → Type 0
HasRest (Existing coid) rest to = (rest ≡ []) × (to ≡ [])
HasRest _ rest to = ⊤

-- these bytes are what two paths have behind their mount; where both lead to its root there are none
abbrev pub NameTwo : List ℕ → List (List ℕ) → List (List ℕ) → Type 0
NameTwo [] from to = (from ≡ []) × (to ≡ [])
NameTwo bytes from to = AreRests bytes × (rests_of bytes ≡ (from, to))

-- these bytes are what a request's paths have behind their mount, as it stands in its message
abbrev pub Name : Request → List ℕ → List (List ℕ) → List (List ℕ) → Type 0
Name (OpenPath flags mode path) bytes rest to = components_of bytes ≡ rest
Name (StatPath path) bytes rest to = components_of bytes ≡ rest
Name (Unlink path) bytes rest to = components_of bytes ≡ rest
Name (Mkdir mode path) bytes rest to = components_of bytes ≡ rest
Name (Rename old new) bytes rest to = NameTwo bytes rest to
Name _ bytes rest to = ⊤
