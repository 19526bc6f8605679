-- What is told of a deed beside what it leaves: who was answered and who came, and what was opened, closed or made, with what its message is replied.
use Rattle.std.specs.Prelude.{◌≡◌, ◌⊎◌, ◌≤◌, ℕ, true, List, [], ◌∷◌, ◌++◌, Option, Some, None, Ok, false}
use Rattle.std.specs.List.{AllByRecursion}
use Rattle.qx_types.specs.declared.names.Coid.{Coid}
use Rattle.qx_types.specs.declared.outcome.Answer.{Answer}
use Rattle.qx_machine.specs.declared.rows.Context.{Context}
use Rattle.qx_machine.specs.declared.rows.Effect.{Effect}
use Rattle.qx_machine.specs.declared.rows.Effect.TheVariants as effect
use Rattle.qx_machine.specs.declared.rows.Kind.{Kind}
use Rattle.qx_machine.specs.declared.rows.Ocb.{Ocb}
use Rattle.qx_machine.specs.declared.rows.Opened.{Opened}
use Rattle.qx_machine.specs.declared.rows.WaitingCall.{WaitingCall}
use Rattle.qx_machine.specs.Defaults.{is_own}
use Rattle.qx_machine.specs.Functions.{Reply, new_coid}
use Rattle.qx_machine.specs.Managers.{own_kind}
use Rattle.qx_machine.specs.Names.{Key}
use Rattle.qx_machine.specs.Resources.{Resources}
use Rattle.qx_isolation.specs.Rows.{row_at}
use Rattle.qx_machine.specs.Waiting.{is_gone}
use Rattle.qx_invariants.specs.Changes.{Abandons, Closes, Comes, Fills, Mounts, Move, Moves, OneLess, OneMore, Opens, ResourceChange, ToOffset, WithLast}

-- what was answered so far, which calls came, which inodes and open control blocks came, went, or have other uses, the last one first, and what
-- happened that no deed does
pub record Told : Type 0 where
  pub answers : List (WaitingCall × Answer)
  pub came : List WaitingCall
  pub seen : List ResourceChange
  pub others : List ResourceChange

-- of these answers and calls and of nothing else
abbrev pub telling : List (WaitingCall × Answer) → List WaitingCall → Told
telling answers came = record { answers = answers; came = came; seen = []; others = [] }

abbrev pub nothing : Told
nothing = telling [] []

-- what happened to open control blocks and came, and nothing else
abbrev pub seeing : List ResourceChange → Told
seeing seen = record nothing { seen = seen }

abbrev pub with_seen : ResourceChange → Told → Told
with_seen change told = record told { seen = change ∷ told.seen }

abbrev pub with_other : ResourceChange → Told → Told
with_other change told = record told { others = change ∷ told.others }

-- an offset is not seen
abbrev pub with_move : ℕ → Move → List ResourceChange → List ResourceChange
with_move number (ToOffset offset) seen = seen
with_move number OneMore seen = Moves number OneMore ∷ seen
with_move number OneLess seen = Moves number OneLess ∷ seen

-- what a change adds to that
abbrev pub told_by : ResourceChange → Told → Told
told_by (Fills inode moment after came) told = record told { answers = told.answers ++ after.answers; came = told.came ++ came }
told_by (Comes inode directory name kind mode moment) told = with_seen (Comes inode directory name kind mode moment) told
told_by (Opens number block at) told = with_seen (Opens number block at) told
told_by (Moves number move) told = record told { seen = with_move number move told.seen }
told_by (Closes own number block parting) told = with_seen (Closes own number block parting) told
told_by (Mounts mount) told = with_other (Mounts mount) told
told_by (Abandons process) told = with_other (Abandons process) told
told_by _ told = told

-- an open control block is closed, and nothing else
abbrev pub IsClosing : ResourceChange → Type 0
IsClosing (Closes own number block parting) = Unit {0}
IsClosing _ = ⊥

-- ---- with what a message is replied

-- one call came, over what the message's connection has open, whose process has not ended
pub record IsCall (context : Context) (came : List WaitingCall) : Type 0 where
  pub call : WaitingCall
  pub alone : came ≡ call ∷ []
  pub here : is_gone call ≡ false
  pub opened : Opened
  pub was : context.opened ≡ Ok opened
  pub process : call.process ≡ opened.process
  pub thread : call.thread ≡ opened.thread
  pub over : call.block ≡ opened.number

-- a message that is not replied to is a call that came
abbrev pub CameWith : Context → Option Reply → List WaitingCall → Type 0
CameWith context (Some reply) came = came ≡ []
CameWith context None came = IsCall context came

-- an inode came in the mount to which the message was sent, of a kind of its manager's
abbrev pub IsMadeThere : Context → ResourceChange → Type 0
IsMadeThere context (Comes inode directory name kind mode moment) = (context.target.root ≡ Some directory.0) × (is_own (own_kind context.target.manager) kind ≡ true)
IsMadeThere context _ = ⊥

-- the message's new connection has a new open control block of its client, of what a path in that mount leads to
pub record IsOpened (context : Context) (coid : Coid) (number : ℕ) (seen : List ResourceChange) : Type 0 where
  pub over : new_coid context.target.over ≡ Some coid
  pub block : Ocb
  pub at : Key
  pub before : List ResourceChange
  pub last : seen ≡ Opens number block at ∷ before
  pub root : context.target.root ≡ Some at.0
  pub client : block.client ≡ context.client
  pub uses : block.uses ≡ 1
  pub made : AllByRecursion (IsMadeThere context) before

-- it has what another one has open
pub record IsDuped (context : Context) (coid : Coid) (number : ℕ) (seen : List ResourceChange) : Type 0 where
  pub over : new_coid context.target.over ≡ Some coid
  pub opened : Opened
  pub was : context.opened ≡ Ok opened
  pub number_is : opened.number ≡ number
  pub alone : seen ≡ Moves number OneMore ∷ []

-- the message's connection is closed, and what it had open is not used by it any more
pub record IsClosed (r : Resources) (context : Context) (coid : Coid) (seen : List ResourceChange) : Type 0 where
  pub opened : Opened
  pub was : context.opened ≡ Ok opened
  pub coid_is : opened.coid ≡ coid
  pub block : Ocb
  pub there : row_at r.inodes.blocks opened.number ≡ Some block
  pub how : (seen ≡ Moves opened.number OneLess ∷ []) ⊎ ((own : Kind) × (block.uses ≤ 1) × (seen ≡ Closes own opened.number block WithLast ∷ []))

abbrev pub HasEffect : Resources → Context → Effect → List ResourceChange → Type 0
HasEffect r context effect.Keeps seen = AllByRecursion (IsMadeThere context) seen
HasEffect r context (effect.Opens coid number) seen = IsOpened context coid number seen ⊎ IsDuped context coid number seen
HasEffect r context (effect.Closes coid) seen = IsClosed r context coid seen

-- what is seen of the blocks tells what becomes of the message's connection
abbrev pub SeenWith : Resources → Context → Option Reply → List ResourceChange → Type 0
SeenWith r context None seen = seen ≡ []
SeenWith r context (Some reply) seen = HasEffect r context reply.effect seen
