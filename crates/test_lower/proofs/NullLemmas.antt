-- The null manager's user stays one of those whose events are kept.
use Rattle.std.proofs.Common.{ℕ, List, Result, Ok, Err, arith}
use Rattle.std.proofs.lemmas.List.{length-set}
use Rattle.qx_base.specs.declared.errno.Errno.{Errno}
use Rattle.qx_machine.specs.Functions.{Deed}
use Rattle.qx_notify.specs.Events.{AllEvents}
use Rattle.qx_resmgr.specs.Deeds.{Did}
use Rattle.qx_resmgr.specs.declared.functions.Done.{Done}
use Rattle.qx_resmgr.specs.declared.state.State.{Ghosts}
use Rattle.demo_managers.specs.Null.{HasUser, Kept, SameUser, Told, shared, told}

-- how the null manager's tables see what it works on
abbrev pub null_state : Ghosts Kept AllEvents Told
null_state = record { told = told; shared = shared; fits = HasUser; same = SameUser }

pub stays : (k after : Kept) (all now : AllEvents) (bytes : List ℕ) (done : Result Done Errno) (meant : Result (Deed Told) Errno) → Did null_state k all after now bytes done meant → HasUser k all → HasUser after now
stays k after all now bytes (Ok done) (Ok deed) did fits = rw (did.2, did.3) (omega (arith, fits, length-set all.events k.user deed.state.events))
stays k after all now bytes (Err error) (Err meant) did fits = rw (did.1, did.2) fits
stays k after all now bytes (Ok done) (Err meant) did fits = absurd did
stays k after all now bytes (Err error) (Ok deed) did fits = absurd did
