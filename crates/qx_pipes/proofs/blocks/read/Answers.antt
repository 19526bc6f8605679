use Rattle.std.proofs.Common.{◌∙◌, [], false, None, Some, refl, sym, ap}
use Rattle.qx_iofunc.specs.Sizes.{sized}
use Rattle.qx_iofunc.specs.Store.{Store}
use Rattle.qx_machine.specs.PipeManager as machine
use Rattle.qx_machine.specs.Resources.{Resources}
use Rattle.qx_machine.specs.Waiting.{waiting_call}
use Rattle.qx_pipes.proofs.PipesLemmas.{block-at, resized}
use Rattle.qx_pipes.proofs.ToldLemmas.{Tells, read-meant, read-over, tells-later, tells-reply}
use Rattle.qx_pipes.proofs.blocks.read.Goals as goal
use Rattle.qx_pipes.specs.Pipes.{seen}

-- it is told its reply at once
told : (c : goal.After-set_size) (r : Resources) → Tells c.args.store.now.stored c.set_size.new.self.stored c.args.shared.now c.read_alone.new.shared r (Some c.in-Some.told.status) c.read_alone.new.reply (machine.read_pipe (seen r c.args.store.now.stored c.args.shared.now) c.args.opened c.args.wanted)
told c r =
    let store = c.args.store.now.stored in
    let shared = c.args.shared.now in
    let block = c.in_ok-block.block in
    let at = block-at store.inodes _ _ _ block c.in_ok-block.ensures c.inodes.ensures in
    let some = sym (rw c.user-user.ensures at c.if-not-has_pipe.ensures.is) in
    let did = rw (c.user-user.ensures, c.manner-manner.ensures, c.sides-sides.ensures, c.inodes-2.ensures) at c.in-Some.ensures in
    tells-reply store shared r c.args.opened block at.0 some _ _ c.requires.user (machine.read_pipe (seen r store shared) c.args.opened c.args.wanted) (read-over store shared c.args.opened block c.args.wanted) (read-meant store shared r c.args.opened block at.0 some c.args.wanted at.1) (waiting_call c.args.opened c.args.wanted []) c.in-Some.told.status c.read_alone.new.reply false did.idle (did.told c.args.opened) did.left refl (ap (λ (s : Store). s.stored) c.set_size.ensures.sized ∙ ap (λ size. resized block.inode (sized size false c.args.opened.moment) store) did.size)

-- it is left without a reply
later : (c : goal.After-set_size-2) (r : Resources) → Tells c.args.store.now.stored c.set_size-2.new.store.stored c.args.shared.now c.read-filled.new.shared r None [] (machine.read_pipe (seen r c.args.store.now.stored c.args.shared.now) c.args.opened c.args.wanted)
later c r =
    let store = c.args.store.now.stored in
    let shared = c.args.shared.now in
    let block = c.in_ok-block.block in
    let at = block-at store.inodes _ _ _ block c.in_ok-block.ensures c.inodes.ensures in
    let some = sym (rw c.user-user.ensures at c.if-not-has_pipe.ensures.is) in
    let tried = rw (c.user-user.ensures, c.manner-manner.ensures, c.sides-sides.ensures, c.inodes-2.ensures) at c.in_default.ensures in
    let did = rw (tried.same, c.user-user.ensures, c.manner-manner.ensures, c.sides-sides.ensures, c.inodes-2.ensures, c.reading-call.ensures.call) at c.read-filled.ensures in
    tells-later store shared r c.args.opened block at.0 some _ _ c.requires.user (machine.read_pipe (seen r store shared) c.args.opened c.args.wanted) (read-over store shared c.args.opened block c.args.wanted) (read-meant store shared r c.args.opened block at.0 some c.args.wanted at.1) _ (λ idle. tried.otherwise idle c.args.opened) did.after did.filled (ap (λ (s : Store). s.stored) c.set_size-2.ensures)

pub returns-in-Some-clause-done : goal.returns-in-Some-clause-done
returns-in-Some-clause-done c = λ r. (told c r).done

pub returns-in-Some-clause-left : goal.returns-in-Some-clause-left
returns-in-Some-clause-left c = λ r. (told c r).follow

pub returns-in-Some-clause-bytes : goal.returns-in-Some-clause-bytes
returns-in-Some-clause-bytes c = λ r. (told c r).bytes_are

pub returns-clause-done : goal.returns-clause-done
returns-clause-done c = λ r. (later c r).done

pub returns-clause-left : goal.returns-clause-left
returns-clause-left c = λ r. (later c r).follow

pub returns-clause-bytes : goal.returns-clause-bytes
returns-clause-bytes c = λ r. c.in_default.ensures.unused ∙ (later c r).bytes_are
