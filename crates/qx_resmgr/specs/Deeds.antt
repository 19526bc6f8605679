-- What a function came to.
use Rattle.std.specs.Prelude.{ℕ, ◌≡◌, List, [], Option, Some, None, Result, Ok, Err}
use Rattle.qx_base.specs.declared.errno.Errno.{Errno}
use Rattle.qx_machine.specs.Functions as functions
use Rattle.qx_machine.specs.Functions.{Deed}
use Rattle.qx_resmgr.specs.declared.functions.Done.{Done}
use Rattle.qx_resmgr.specs.declared.functions.Done.TheVariants.{Reply, NoReply}
use Rattle.qx_resmgr.specs.declared.state.State.{Ghosts}

-- what a message is replied, with these bytes
abbrev pub reply_with : List ℕ → Done → Option functions.Reply
reply_with bytes (Reply status effect) = Some (record { status = status; bytes = bytes; effect = effect })
reply_with bytes NoReply = None

-- that a function did what its table says, from the two states before it to the two after it: it replied that, left that, and gave those
-- answers, or it gave that error, changed nothing, and left no bytes
abbrev pub Did : {S W T : Type 0} → Ghosts S W T → S → W → S → W → List ℕ → Result Done Errno → Result (Deed T) Errno → Type 0
Did kept state waits after waits_after bytes (Ok done) (Ok deed) =
    (reply_with bytes done ≡ deed.reply) × (kept.told after waits_after ≡ deed.state) × (waits_after ≡ kept.shared state waits deed.state deed.answers) × kept.same state after
Did kept state waits after waits_after bytes (Err error) (Err meant) = (error ≡ meant) × (after ≡ state) × (waits_after ≡ waits) × (bytes ≡ [])
Did kept state waits after waits_after bytes _ _ = ⊥

-- that a message is not left without a reply
abbrev pub IsReplied : Result Done Errno → Type 0
IsReplied (Ok NoReply) = ⊥
IsReplied _ = Unit {0}

-- how a function that had room for a later reply leaves it: it goes with a message that is left without a reply, and else it is as it was
abbrev pub HasRoomAfter : {R : Type 0} → Option R → Option R → Result Done Errno → Type 0
HasRoomAfter before room (Ok NoReply) = room ≡ None
HasRoomAfter before room _ = room ≡ before
