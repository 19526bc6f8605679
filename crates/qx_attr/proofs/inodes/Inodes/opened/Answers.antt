use Rattle.std.proofs.Common.{◌≡◌, None, Option, Some, map, refl}
use Rattle.std.specs.Prelude.{IsSome}
use Rattle.qx_attr.specs.inner.Counts.{attribute_of}
use Rattle.qx_attr.proofs.CountLemmas.{has_inode}
use Rattle.qx_attr.proofs.TableLemmas.{none_before}
use Rattle.qx_isolation.specs.Rows.{row_at}
use Rattle.qx_attr.proofs.inodes.Inodes.opened.Goals as goal

some_of : {A : Type 0} (row : Option A) → (row ≡ None → ⊥) → IsSome row
some_of None clash = absurd (clash refl)
some_of (Some value) clash = refl

pub returns : goal.returns
returns c =
    let attrs = c.self.inside.attrs.items in
    rw (← c.self.view_is) (record {
      there = λ number block is. some_of (row_at (map attribute_of attrs) block.inode) (λ none. has_inode attrs c.self.inside.blocks.rows number block c.self.invariant.counted is (none_before attribute_of attrs block.inode (λ attr gone. absurd (cc)) none));
    })
