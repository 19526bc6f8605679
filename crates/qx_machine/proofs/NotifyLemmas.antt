-- Nothing is due where nothing changed, and what is taken away is not there.
use Rattle.std.proofs.Common.{◌≡◌, inl, inr, ℕ, List, [], ◌∷◌, Bool, not, refl, sym, ap, ◌∙◌}
use Rattle.std.specs.Prelude.{Option, Some, None, filter, map, option_map}
use Rattle.std.specs.List.{AllByRecursion}
use Rattle.std.proofs.lemmas.Bool.{cases_Bool}
use Rattle.qx_machine.specs.declared.rows.Event.{Event}
use Rattle.qx_machine.specs.declared.rows.Ocb.{Ocb}
use Rattle.qx_machine.specs.declared.rows.Sides.{Sides}
use Rattle.qx_machine.specs.declared.rows.WaitingCall.{WaitingCall}
use Rattle.qx_machine.specs.Clients.{with_abandoned, without_process}
use Rattle.qx_machine.specs.Events.{without_pulses}
use Rattle.qx_machine.specs.Inodes.{Inodes}
use Rattle.qx_machine.specs.Notification.{block_conditions, conditions_at, conditions_of, events_settled}
use Rattle.qx_machine.specs.Pipes.{Pipe}
use Rattle.qx_machine.specs.Resources.{Resources}
use Rattle.qx_isolation.specs.Rows.{row_at}
use Rattle.qx_machine.specs.Waiting.{Pipes, sides_of}
use Rattle.qx_machine.proofs.EventFacts.{triggered-none}
use Rattle.qx_isolation.proofs.Places.{at-map}

pub none-left : {A : Type 0} (which : A → Bool) (all : List A) → filter which (filter (λ one. not (which one)) all) ≡ []
none-left which [] = refl
none-left which (one ∷ all) = elim (cases_Bool (which one)) [
  | inl is ↦ rw is (none-left which all)
  | inr not_so ↦ rw (not_so, not_so) (none-left which all)
]

-- where what holds of each block is as before, nothing is due
pub settled-alike : (lives : ℕ → Bool) (before after : Resources) → ((number : ℕ) → block_conditions before number ≡ block_conditions after number) → events_settled lives before after ≡ after.events
settled-alike lives before after same = triggered-none (block_conditions before) (block_conditions after) lives after.events (all after.events.armed)
  where
    all : (events : List Event) → AllByRecursion (λ event. block_conditions before event.block ≡ block_conditions after event.block) events
    all [] = tt
    all (event ∷ events) = (same event.block, all events)

-- what holds of a block is told by inodes and pipes
pub same-conditions : (before after : Resources) → after.inodes ≡ before.inodes → after.pipes ≡ before.pipes → (number : ℕ) → block_conditions before number ≡ block_conditions after number
same-conditions before after inodes pipes number =
    ap (λ (i : Inodes). block_conditions (record before { inodes = i }) number) (sym inodes) ∙ ap (λ (p : Pipes). block_conditions (record before { inodes = after.inodes; pipes = p }) number) (sym pipes)

pub settled-unchanged : (lives : ℕ → Bool) (before after : Resources) → after.inodes ≡ before.inodes → after.pipes ≡ before.pipes → events_settled lives before after ≡ after.events
settled-unchanged lives before after inodes pipes = settled-alike lives before after (same-conditions before after inodes pipes)

-- ---- a process that ends

pipe-alike : (sides : Sides) (process : ℕ) (row : Option (Pipe WaitingCall)) → conditions_of sides row ≡ conditions_of sides (option_map (with_abandoned process) row)
pipe-alike sides process None = refl
pipe-alike sides process (Some pipe) = refl

row-abandoned : (process : ℕ) (pipes : Pipes) (inode : ℕ) → row_at (map (option_map (with_abandoned process)) pipes) inode ≡ option_map (with_abandoned process) (row_at pipes inode)
row-abandoned process pipes inode = at-map (option_map (with_abandoned process)) pipes inode None None refl

ended-conditions : (r : Resources) (process : ℕ) (block : Option Ocb) → conditions_at r block ≡ conditions_at (without_process process r) block
ended-conditions r process None = refl
ended-conditions r process (Some block) =
    pipe-alike (sides_of r.inodes block.inode) process (row_at r.pipes block.inode) ∙ ap (conditions_of (sides_of r.inodes block.inode)) (sym (row-abandoned process r.pipes block.inode))

-- nothing is due as a process ends
pub settled-ended : (lives : ℕ → Bool) (r : Resources) (process : ℕ) → events_settled lives r (without_process process r) ≡ without_pulses process r.events
settled-ended lives r process = settled-alike lives r (without_process process r) (λ number. ended-conditions r process (row_at r.inodes.blocks number))
