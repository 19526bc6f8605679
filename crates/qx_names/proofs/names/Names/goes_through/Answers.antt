use Rattle.std.proofs.Common.{◌≡◌, ◌||◌, Some, ap, sym, ◌∙◌}
use Rattle.std.specs.FinMap as map
use Rattle.std.proofs.Math.Bool.{or-false}
use Rattle.qx_machine.specs.Names as machine
use Rattle.qx_names.specs.Paths.{path_of}
use Rattle.qx_names.proofs.BelowLemmas.{other_path, same_path, told_path, walk_below, walk_last, walk_next}
use Rattle.qx_names.proofs.names.Names.goes_through.Goals as goal

pub returns-then-parent-directory : goal.returns-then-parent-directory
returns-then-parent-directory c inodes user at e =
    sym (walk_below inodes c.args.self.now user (path_of c.args.self.now c.args.directory) c.loop-next.parent (path_of c.args.self.now c.loop-next.parent) c.loop-next.last.now c.loop-next.rest at (c.loop-next.invariant.walked inodes user at e)
    (ap (λ b. b || machine.is_below (path_of c.args.self.now c.args.directory) (path_of c.args.self.now c.loop-next.parent).0 (path_of c.args.self.now c.loop-next.parent).1) (same_path c.args.self.now c.loop-next.parent c.args.directory c.loop-next.invariant.named c.requires.there c.if-parent-directory.true)))

pub loop-next-preserved : goal.loop-next-preserved
loop-next-preserved c =
    let names = c.args.self.now in
    let from = path_of names c.args.directory in
    let path : path_of names c.in-Some-entry.child ≡ machine.under (path_of names c.loop-next.parent) c.loop-next.last.now = c.in-Some-entry.ensures.path in
    let leads : map.get names (machine.under (path_of names c.loop-next.parent) c.loop-next.last.now) ≡ Some c.in-Some-entry.child = sym c.in-Some-entry.ensures.entry in
    record {
      walked = λ inodes user at e. walk_next inodes names user c.loop-next.parent (path_of names c.loop-next.parent) c.loop-next.last.now c.in-Some.next.now c.next.new.self c.loop-next.rest c.in-Some.ensures.steps c.in-Some-entry.child leads (path_of names c.in-Some-entry.child) path at (c.loop-next.invariant.walked inodes user at e);
      above = ap (λ (k : machine.Key). machine.is_below from k.0 k.1) path ∙ (ap (λ b. b || machine.is_below from (path_of names c.loop-next.parent).0 (path_of names c.loop-next.parent).1) (other_path names c.loop-next.parent c.args.directory c.loop-next.invariant.named c.requires.there c.if-parent-directory.false) ∙ c.loop-next.invariant.above);
      named = c.in-Some-entry.ensures.named;
    }

pub returns : goal.returns
returns c inodes user at e =
    let names = c.args.self.now in
    let from = path_of names c.args.directory in
    let key = walk_last inodes names user c.loop-next.parent (path_of names c.loop-next.parent) c.loop-next.last.now c.loop-next.rest c.in_default.ensures.steps.0 at (c.loop-next.invariant.walked inodes user at e) in
    told_path names c.loop-next.parent c.args.directory c.loop-next.invariant.named c.requires.there
    ∙ (sym (or-false (machine.is_same_key (path_of names c.loop-next.parent) from)) ∙ (ap (machine.is_same_key (path_of names c.loop-next.parent) from ||◌) (sym c.loop-next.invariant.above) ∙ ap (λ (k : machine.Key). machine.is_below from k.0 k.1) (sym key)))
