-- What only the proofs need of Bell.
use Rattle.qx_shared.specs.Shared.{Shared}
use Rattle.qx_resmgr.specs.declared.state.State.{Ghosts}
use Rattle.demo_managers.specs.Bell.{KeptBells, Bells, bells_told, bells_shared, HasOwnPlace, SamePlace}

-- how the tables see the two
abbrev pub bells_state : Ghosts KeptBells Shared Bells
bells_state = record { told = bells_told; shared = bells_shared; fits = HasOwnPlace; same = SamePlace }
