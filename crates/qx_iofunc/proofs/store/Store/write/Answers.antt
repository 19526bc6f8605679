use Rattle.std.proofs.Common.{◌≡◌, ℕ, List}
use Rattle.qx_iofunc.proofs.StoreLemmas.{StoreFits, changed_fits, changed_is}
use Rattle.qx_iofunc.specs.Store.{Stored}
use Rattle.qx_machine.specs.Files.{put, size_of}
use Rattle.qx_isolation.specs.Rows.{row_at, with_row}
use Rattle.qx_iofunc.proofs.store.Store.write.Goals as goal

pub invariant_of-self-2 : goal.invariant_of-self-2
invariant_of-self-2 c =
    let t = c.self-inside.inside.0.0 in
    let s : Stored = record { user = t.user.0; inodes = t.inodes.inodes; names = t.names; files = t.files.files; limits = t.limits } in
    let fits : StoreFits s = rw (← c.self-inside.view_is) at c.self.invariant in
    let change = λ (old : List ℕ). put old c.args.offset c.args.new.now in
    let size : c.in_ok-size.size ≡ size_of (row_at (with_row s.files c.args.inode change) c.args.inode) = rw c.in_ok-size.ensures.ok at c.in_ok-size.ensures.size in
    rw (c.resize.ensures, c.in_ok-size.ensures.ok) (changed_fits c.args.inode c.in_ok-size.size c.args.moment change s size fits)

pub returns-clause-ok : goal.returns-clause-ok
returns-clause-ok c =
    let t = c.self-inside.inside.0.0 in
    let s : Stored = record { user = t.user.0; inodes = t.inodes.inodes; names = t.names; files = t.files.files; limits = t.limits } in
    let change = λ (old : List ℕ). put old c.args.offset c.args.new.now in
    let size : c.in_ok-size.size ≡ size_of (row_at (with_row s.files c.args.inode change) c.args.inode) = rw c.in_ok-size.ensures.ok at c.in_ok-size.ensures.size in
    rw (← c.self.view_is, ← c.self-inside.view_is, c.resize.ensures, c.in_ok-size.ensures.ok)
    (λ r bytes is. changed_is r c.args.inode c.in_ok-size.size c.args.moment change s bytes is size)
