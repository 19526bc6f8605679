use Rattle.std.proofs.Common.{rules, ◌≡◌, Ok, refl, sym}
use Rattle.qx_iofunc.specs.Makes.{may_make}
use Rattle.qx_machine.specs.Resources.{Resources}
use Rattle.qx_pipes.proofs.PipesLemmas.{found-told, missing-told, row-back}
use Rattle.qx_pipes.proofs.paths.open_found.Goals as goal
use Rattle.qx_pipes.specs.Pipes.{seen}

pub returns-in_default : goal.returns-in_default
returns-in_default c =
    let store = c.args.store.now.stored in
    let shared = c.args.shared.now in
    let opened = rw (c.kind_of-own.ensures, c.in_default.is) at c.in_ok-open.ensures.opened in
    let told = λ (r : Resources). found-told store c.open.new.self.stored shared _ r c.requires.user c.in_ok-open.ensures.user c.args.device c.args.over c.args.wish c.in_ok-open.field-0 c.in_default.field-0 (opened (seen r store shared) c.args.over.coid c.args.over.root) refl in
    rw c.in_default.is (record { user = c.in_ok-open.ensures.user; opened = λ r. sym (told r).told; left = λ r. (told r).follow; err = tt })

pub returns-then-has_pipe : goal.returns-then-has_pipe
returns-then-has_pipe c =
    let store = c.args.store.now.stored in
    let shared = c.args.shared.now in
    let new = c.in-Missing.new in
    let opened = rw (c.kind_of-own.ensures, c.in-Missing.is) at c.in_ok-opening.ensures.opened in
    let block = c.in-Missing.block in
    let may : may_make store.inodes store.user c.in-Missing.at.parent c.args.wish.flags ≡ Ok (new, block) = rw c.in-Missing.is at c.requires.allowed.judged in
    let made = rw (c.user-user.ensures, c.in_ok-blank.ensures.blank) at c.empty.ensures in
    let told = λ (r : Resources). missing-told store c.open-then-has_pipe.new.self.stored shared _ r c.requires.user c.in_ok-opening.ensures.user c.args.device c.args.over c.args.wish c.in_ok-opening.opening c.in-Missing.at.parent _ new block may (opened (seen r store shared) c.args.over.coid c.args.over.root) made in
    rw c.in-Missing.is (record { user = c.in_ok-opening.ensures.user; opened = λ r. sym (told r).told; left = λ r. (told r).follow; err = tt })

pub returns-in-Ok : goal.returns-in-Ok
returns-in-Ok c =
    let store = c.args.store.now.stored in
    let shared = c.args.shared.now in
    let new = c.in-Missing.new in
    let opened = rw (c.kind_of-own.ensures, c.in-Missing.is) at c.in-Ok.ensures.opened in
    let block = c.in-Missing.block in
    let may : may_make store.inodes store.user c.in-Missing.at.parent c.args.wish.flags ≡ Ok (new, block) = rw c.in-Missing.is at c.requires.allowed.judged in
    let made = rw c.user-user.ensures at c.in_ok-add_pipe.ensures.ok in
    let told = λ (r : Resources). missing-told store c.open-2.new.self.stored shared _ r c.requires.user c.in-Ok.ensures.user c.args.device c.args.over c.args.wish c.in-Ok.opening c.in-Missing.at.parent _ new block may (opened (seen r store shared) c.args.over.coid c.args.over.root) made in
    rw c.in-Missing.is (record { user = c.in-Ok.ensures.user; opened = λ r. sym (told r).told; left = λ r. (told r).follow; err = tt })

pub returns-in-Err-clause-err : goal.returns-in-Err-clause-err
returns-in-Err-clause-err c =
    (c.in-Err.ensures.err, row-back _ _ c.in-Missing.new.inode _ _ _ (search rules) (search rules) c.in_ok-add_pipe.ensures.ok c.remove_pipe.ensures)
