-- After a message, or an unblock, only the events of the watched pipe's blocks can be due.
use Rattle.std.proofs.Common.{◌≡◌, refl, ap, ◌∙◌, Bool, true, false, ℕ, List, Option, Some, None, IsSome, Result, Ok, Err, map}
use Rattle.std.specs.Prelude.{position, if◌then◌else◌}
use Rattle.qx_base.specs.declared.errno.Errno.{Errno}
use Rattle.qx_types.specs.declared.names.Manager.{Manager}
use Rattle.qx_types.specs.declared.names.Manager.TheVariants as managers
use Rattle.qx_wire.specs.declared.message.Meaning.{Meaning}
use Rattle.qx_wire.specs.declared.message.Meaning.TheVariants.{Known, Unknown, Malformed}
use Rattle.qx_wire.specs.declared.message.Message.{Message}
use Rattle.qx_wire.specs.declared.message.Message.TheVariants as msg
use Rattle.qx_machine.specs.declared.rows.Attribute.{Attribute}
use Rattle.qx_machine.specs.declared.rows.Context.{Context}
use Rattle.qx_machine.specs.declared.rows.Kind.{Kind}
use Rattle.qx_machine.specs.declared.rows.Kind.TheVariants as kind
use Rattle.qx_machine.specs.declared.rows.Ocb.{Ocb}
use Rattle.qx_machine.specs.declared.rows.Opened.{Opened}
use Rattle.qx_machine.specs.Functions.{Deed, message_deed, new_dup, new_open, side_root}
use Rattle.qx_isolation.specs.Judgements.{◌>>=◌}
use Rattle.qx_machine.specs.Managers.{manager_deed, pipe_connect, pipe_io}
use Rattle.qx_machine.specs.Notification.{events_settled}
use Rattle.qx_machine.specs.Performing.{deed_of}
use Rattle.qx_machine.specs.PipeManager.{cancel_call}
use Rattle.qx_machine.specs.Resources.{Resources}
use Rattle.qx_isolation.specs.Rows.{row_at}
use Rattle.qx_machine.specs.Waiting.{holds, is_call}
use Rattle.qx_machine.proofs.NotifyLemmas.{settled-unchanged}
use Rattle.qx_attr.specs.declared.attr.Attr.{Attr}
use Rattle.qx_attr.specs.inner.Counts.{AreCounted, attribute_of}
use Rattle.qx_attr.proofs.CountLemmas.{has_inode}
use Rattle.qx_attr.proofs.TableLemmas.{no_value, none_before}
use Rattle.qx_resources.specs.declared.watching.Watched.{Watched}
use Rattle.qx_resources.specs.Watching.{HasNoStalePipe, watch_block, watch_place, watched_call, watched_over, watched_settled, works_on_pipe}
use Rattle.qx_resources.proofs.WatchDeeds.{GivesStill, cancel-settled, kept-settled, read_file-settled, read_pipe-settled, seek_file-still, write_file-settled, write_pipe-settled}
use Rattle.qx_resources.proofs.WatchCloses.{close_dup-settled}
use Rattle.qx_resources.proofs.WatchFacts.{IsEnough, still-settled}
use Rattle.qx_machine.proofs.Gives.{Gives, gives_error, gives_more, gives_on, gives-value}
use Rattle.qx_resources.proofs.WatchOpens.{directory-still, open-still}
use Rattle.qx_resources.proofs.WatchOthers.{chmod-still, dup-still, list-still, notify-still, rename-still, seek_pipe-still, stat_block-still, stat_path-still, unlink-still}

-- it is enough to watch what is watched for a message over this
abbrev IsSettled : Resources → Meaning → Result Opened Errno → Deed Resources → Type 0
IsSettled r given opened deed = IsEnough r (watched_over r given opened) deed.state

unwatched-message : (r : Resources) (message : Message) (opened : Result Opened Errno) → works_on_pipe message ≡ false → watched_over r (Known message) opened ≡ None
unwatched-message r message (Err error) none = refl
unwatched-message r message (Ok opened) none = ap (λ (works : Bool). if works then watch_block r (row_at r.inodes.blocks opened.number) else None) none

-- for a message by which nothing comes to hold nothing is watched
still : (r : Resources) (message : Message) (opened : Result Opened Errno) (given : Result (Deed Resources) Errno) → works_on_pipe message ≡ false → GivesStill r given → Gives (IsSettled r (Known message) opened) given
still r message opened given none h =
    gives_more _ (IsSettled r (Known message) opened) given
    (λ deed quiet lives. ap (λ (watched : Option Watched). watched_settled lives watched deed.state) (unwatched-message r message opened none) ∙ still-settled r deed.state quiet lives) h

over_opened : (r : Resources) (given : Meaning) (opened : Result Opened Errno) (next : Opened → Result (Deed Resources) Errno) → ((over : Opened) → Gives (IsSettled r given (Ok over)) (next over)) → Gives (IsSettled r given opened) (opened >>= next)
over_opened r given (Ok over) next h = h over
over_opened r given (Err error) next h = gives_error _ error

module _ (r : Resources) (no_stale : HasNoStalePipe r) (context : Context) where
  ram-settled : (message : Message) → Gives (IsSettled r (Known message) context.opened) (manager_deed managers.Ram r context message)
  ram-settled (msg.Open flags mode rest) = still r (msg.Open flags mode rest) context.opened _ refl (gives_on _ (new_open context) _ (λ over is. open-still r no_stale kind.File over rest _))
  ram-settled (msg.Stat rest) = still r (msg.Stat rest) context.opened _ refl (gives_on _ (side_root context.target) _ (λ root is. stat_path-still r root rest context.moment))
  ram-settled (msg.Unlink rest) = still r (msg.Unlink rest) context.opened _ refl (gives_on _ (side_root context.target) _ (λ root is. unlink-still kind.File r root rest context.moment))
  ram-settled (msg.Mknod mode rest) = still r (msg.Mknod mode rest) context.opened _ refl (gives_on _ (side_root context.target) _ (λ root is. directory-still r no_stale root mode rest context.moment))
  ram-settled (msg.Rename rests) = still r (msg.Rename rests) context.opened _ refl (gives_on _ (side_root context.target) _ (λ root is. rename-still kind.File r root rests.0 rests.1 context.moment))
  ram-settled (msg.Read count) = over_opened r (Known (msg.Read count)) context.opened _ (λ over. read_file-settled r over count)
  ram-settled (msg.Write bytes) = over_opened r (Known (msg.Write bytes)) context.opened _ (λ over. write_file-settled r over bytes)
  ram-settled msg.Close = over_opened r (Known msg.Close) context.opened _ (λ over. close_dup-settled kind.File r over)
  ram-settled (msg.Dup old) = still r (msg.Dup old) context.opened _ refl (gives_on _ (new_dup context) _ (λ dup is. dup-still r dup))
  ram-settled (msg.Lseek whence offset) = still r (msg.Lseek whence offset) context.opened _ refl (gives_on _ context.opened _ (λ over is. seek_file-still r over whence offset))
  ram-settled msg.Fstat = still r msg.Fstat context.opened _ refl (gives_on _ context.opened _ (λ over is. stat_block-still r over))
  ram-settled (msg.List after) = still r (msg.List after) context.opened _ refl (gives_on _ context.opened _ (λ over is. list-still r over after))
  ram-settled (msg.Notify action conditions code value) = still r (msg.Notify action conditions code value) context.opened _ refl (gives_on _ context.opened _ (λ over is. notify-still r over action _))
  ram-settled (msg.Chmod mode) = still r (msg.Chmod mode) context.opened _ refl (gives_on _ context.opened _ (λ over is. chmod-still r over mode))

  pipe-settled : (own : Kind) (message : Message) → Gives (IsSettled r (Known message) context.opened) (message_deed (pipe_connect own) (pipe_io own) r context message)
  pipe-settled own (msg.Open flags mode rest) = still r (msg.Open flags mode rest) context.opened _ refl (gives_on _ (new_open context) _ (λ over is. open-still r no_stale own over rest _))
  pipe-settled own (msg.Stat rest) = still r (msg.Stat rest) context.opened _ refl (gives_on _ (side_root context.target) _ (λ root is. stat_path-still r root rest context.moment))
  pipe-settled own (msg.Unlink rest) = still r (msg.Unlink rest) context.opened _ refl (gives_on _ (side_root context.target) _ (λ root is. unlink-still own r root rest context.moment))
  pipe-settled own (msg.Mknod mode rest) = gives_error _ _
  pipe-settled own (msg.Rename rests) = gives_error _ _
  pipe-settled own (msg.Read count) = over_opened r (Known (msg.Read count)) context.opened _ (λ over. read_pipe-settled r over count)
  pipe-settled own (msg.Write bytes) = over_opened r (Known (msg.Write bytes)) context.opened _ (λ over. write_pipe-settled r over bytes)
  pipe-settled own msg.Close = over_opened r (Known msg.Close) context.opened _ (λ over. close_dup-settled own r over)
  pipe-settled own (msg.Dup old) = still r (msg.Dup old) context.opened _ refl (gives_on _ (new_dup context) _ (λ dup is. dup-still r dup))
  pipe-settled own (msg.Lseek whence offset) = still r (msg.Lseek whence offset) context.opened _ refl (gives_on _ context.opened _ (λ over is. seek_pipe-still r over whence offset))
  pipe-settled own msg.Fstat = still r msg.Fstat context.opened _ refl (gives_on _ context.opened _ (λ over is. stat_block-still r over))
  pipe-settled own (msg.List after) = still r (msg.List after) context.opened _ refl (gives_on _ context.opened _ (λ over is. list-still r over after))
  pipe-settled own (msg.Notify action conditions code value) = still r (msg.Notify action conditions code value) context.opened _ refl (gives_on _ context.opened _ (λ over is. notify-still r over action _))
  pipe-settled own (msg.Chmod mode) = still r (msg.Chmod mode) context.opened _ refl (gives_on _ context.opened _ (λ over is. chmod-still r over mode))

  manager-settled : (manager : Manager) (message : Message) → Gives (IsSettled r (Known message) context.opened) (manager_deed manager r context message)
  manager-settled managers.Ram message = ram-settled message
  manager-settled managers.Pipe message = pipe-settled kind.Pipe message
  manager-settled (managers.Device device) message = pipe-settled (kind.Device device) message

  meaning-settled : (given : Meaning) → Gives (IsSettled r given context.opened) (deed_of r context given)
  meaning-settled (Known message) = manager-settled context.target.manager message
  meaning-settled Unknown = gives_error _ _
  meaning-settled Malformed = gives_error _ _

-- no pipe is stale where what is open is there, as it is where open control blocks are counted beside the attributes of their inodes

pub there-unstale : (r : Resources) → ((number : ℕ) (block : Ocb) → row_at r.inodes.blocks number ≡ Some block → IsSome (row_at r.inodes.attributes block.inode)) → HasNoStalePipe r
there-unstale r there number block is none = absurd (no_value (row_at r.inodes.attributes block.inode) none (there number block is))

module _ (lives : ℕ → Bool) (r : Resources) where
  -- after a message, what was watched tells of each event that is due
  pub watched-settled : (context : Context) (given : Meaning) (deed : Deed Resources) → HasNoStalePipe r → deed_of r context given ≡ Ok deed → watched_settled lives (watched_over r given context.opened) deed.state ≡ events_settled lives r deed.state
  watched-settled context given deed no_stale is = gives-value (IsSettled r given context.opened) _ deed is (meaning-settled r no_stale context given) lives

  -- so it does after an unblock
  pub watched-cancelled : (process thread call moment : ℕ) (deed : Deed Resources) → cancel_call r process thread call moment ≡ Ok deed → watched_settled lives (watched_call r process thread call) deed.state ≡ events_settled lives r deed.state
  watched-cancelled process thread call moment deed is =
      gives-value (λ (deed : Deed Resources). IsEnough r (watched_call r process thread call) deed.state) _ deed is (cancel-settled r process thread call moment) lives

  -- where nothing changed, nothing is due
  watched-kept : (watched : Option ℕ) → watched_settled lives (watch_place r watched) r ≡ r.events
  watched-kept None = refl
  watched-kept (Some inode) = kept-settled r inode lives ∙ settled-unchanged lives r r refl refl

  block-kept : (row : Option Ocb) → watched_settled lives (watch_block r row) r ≡ r.events
  block-kept None = refl
  block-kept (Some block) = watched-kept (Some block.inode)

  pub watched-unchanged : (given : Meaning) (opened : Result Opened Errno) → watched_settled lives (watched_over r given opened) r ≡ r.events
  watched-unchanged (Known message) (Ok opened) = by (works_on_pipe message)
    where
      by : (works : Bool) → watched_settled lives (if works then watch_block r (row_at r.inodes.blocks opened.number) else None) r ≡ r.events
      by true = block-kept (row_at r.inodes.blocks opened.number)
      by false = refl
  watched-unchanged (Known message) (Err error) = refl
  watched-unchanged Unknown opened = refl
  watched-unchanged Malformed opened = refl

  pub watched-same : (process thread call : ℕ) → watched_settled lives (watched_call r process thread call) r ≡ r.events
  watched-same process thread call = watched-kept (position (holds (is_call process thread call)) r.pipes)
