-- Another size of an inode in which calls may wait.
use Rattle.std.specs.Prelude.{ℕ, Bool, not, if◌then◌else◌}
use Rattle.qx_machine.specs.declared.rows.Attribute.{Attribute}
use Rattle.qx_machine.specs.Names.{has_calls}
use Rattle.qx_machine.specs.Resources.{resized}

-- a pipe or a device has another size, and where bytes went in the times of that
abbrev pub sized : ℕ → Bool → ℕ → Attribute → Attribute
sized size filled moment attribute =
    if not (has_calls attribute.kind) then attribute
    else if filled then resized size moment attribute
    else record attribute { size = size }
