-- The two tables of functions of a manager, each function as what it means (Writing a Resource Manager: resmgr_connect_funcs_t,
-- resmgr_io_funcs_t). S is what the manager's functions work on.
use Rattle.std.specs.Prelude.{ℕ, ℤ, Bool, true, false, List, [], Option, Some, None, Result, Ok}
use Rattle.qx_base.specs.declared.errno.Errno.{Errno}
use Rattle.qx_base.specs.declared.errno.Errno.TheVariants.{EINVAL, ENOSYS}
use Rattle.qx_types.specs.declared.fields.NotifyAction.{NotifyAction}
use Rattle.qx_types.specs.declared.fields.Whence.{Whence}
use Rattle.qx_types.specs.declared.names.Coid.{Coid}
use Rattle.qx_types.specs.declared.outcome.Answer.{Answer}
use Rattle.qx_wire.specs.declared.message.Message.{Message}
use Rattle.qx_wire.specs.declared.message.Message.TheVariants as msg
use Rattle.qx_machine.specs.declared.rows.Context.{Context}
use Rattle.qx_machine.specs.declared.rows.Effect.{Effect}
use Rattle.qx_machine.specs.declared.rows.NewDup.{NewDup}
use Rattle.qx_machine.specs.declared.rows.NewOpen.{NewOpen}
use Rattle.qx_machine.specs.declared.rows.Opened.{Opened}
use Rattle.qx_machine.specs.declared.rows.Over.{Over}
use Rattle.qx_machine.specs.declared.rows.Over.TheVariants.{New, Existing, Side}
use Rattle.qx_machine.specs.declared.rows.PulseWish.{PulseWish}
use Rattle.qx_machine.specs.declared.rows.Target.{Target}
use Rattle.qx_machine.specs.declared.rows.WaitingCall.{WaitingCall}
use Rattle.qx_machine.specs.declared.rows.Wish.{Wish}
use Rattle.qx_isolation.specs.Judgements.{◌>>=◌, found, need}

-- what a message is replied: status and bytes, and what becomes of its connection
pub record Reply : Type 0 where
  pub status : ℕ
  pub bytes : List ℕ
  pub effect : Effect

-- what a message does: what it is replied, if the function leaves no other answer to it (Writing a Resource Manager: _RESMGR_NOREPLY); what
-- the functions work on as it is after it; and which calls that waited, or would wait, are answered what, in order
pub record Deed (S : Type 0) : Type 0 where
  pub reply : Option Reply
  pub state : S
  pub answers : List (WaitingCall × Answer)

-- a reply to the message, and no other answer
abbrev pub reply_alone : {S : Type 0} → ℕ → List ℕ → Effect → S → Deed S
reply_alone status bytes effect state = record { reply = Some (record { status = status; bytes = bytes; effect = effect }); state = state; answers = [] }

-- the functions for messages to a path; a stat and those after it are given the root of the mount, and the moment last
pub record ConnectFunctions (S : Type 0) : Type 0 where
  pub «open» : Option (S → NewOpen → List (List ℕ) → Wish → Result (Deed S) Errno)
  pub stat : Option (S → ℕ → List (List ℕ) → ℕ → Result (Deed S) Errno)
  pub unlink : Option (S → ℕ → List (List ℕ) → ℕ → Result (Deed S) Errno)
  pub mknod : Option (S → ℕ → ℕ → List (List ℕ) → ℕ → Result (Deed S) Errno)
  pub rename : Option (S → ℕ → List (List ℕ) → List (List ℕ) → ℕ → Result (Deed S) Errno)

-- the functions for messages over what is open
pub record IoFunctions (S : Type 0) : Type 0 where
  pub read : Option (S → Opened → ℕ → Result (Deed S) Errno)
  pub write : Option (S → Opened → List ℕ → Result (Deed S) Errno)
  pub close : Option (S → Opened → Result (Deed S) Errno)
  pub dup : Option (S → NewDup → Result (Deed S) Errno)
  pub lseek : Option (S → Opened → Whence → ℤ → Result (Deed S) Errno)
  pub fstat : Option (S → Opened → Result (Deed S) Errno)
  pub list : Option (S → Opened → List ℕ → Result (Deed S) Errno)
  pub chmod : Option (S → Opened → ℕ → Result (Deed S) Errno)
  pub notify : Option (S → Opened → NotifyAction → PulseWish → Result (Deed S) Errno)

-- the tables of a manager that has no function
abbrev pub no_connect : {S : Type 0} → ConnectFunctions S
no_connect = record { «open» = None; stat = None; unlink = None; mknod = None; rename = None }

abbrev pub no_io : {S : Type 0} → IoFunctions S
no_io = record { read = None; write = None; close = None; dup = None; lseek = None; fstat = None; list = None; chmod = None; notify = None }

-- ---- what a message came over

abbrev pub new_coid : Over → Option Coid
new_coid (New coid) = Some coid
new_coid _ = None

abbrev pub existing_coid : Over → Option Coid
existing_coid (Existing coid) = Some coid
existing_coid _ = None

abbrev pub is_side : Over → Bool
is_side Side = true
is_side _ = false

-- an open comes over a connection that its call made
abbrev pub new_open : Context → Result NewOpen Errno
new_open context = do
  coid ← found (new_coid context.target.over) EINVAL
  root ← found context.target.root EINVAL
  Ok (record { coid = coid; client = context.client; root = root })

-- a dup comes over a connection that its call made; what is open over the old one is asked then
abbrev pub new_dup : Context → Result NewDup Errno
new_dup context = do
  coid ← found (new_coid context.target.over) EINVAL
  old ← context.opened
  Ok (record { coid = coid; old = old })

-- what else is sent to a path comes over a side connection, to the mount with this root
abbrev pub side_root : Target → Result ℕ Errno
side_root target = do
  aside ← need (is_side target.over) EINVAL
  found target.root EINVAL

-- ---- serving

-- a function is used on what its message came over, if that is good; one that a manager leaves out is ENOSYS before (Writing a Resource
-- Manager: functions that a manager leaves out)
abbrev pub function_deed : {F A D : Type 0} → Option F → Result A Errno → (F → A → Result D Errno) → Result D Errno
function_deed function over deed = do
  f ← found function ENOSYS
  given ← over
  deed f given

-- a message is served by one function of one of the manager's tables
abbrev pub message_deed : {S : Type 0} → ConnectFunctions S → IoFunctions S → S → Context → Message → Result (Deed S) Errno
message_deed connect io state context (msg.Open flags mode rest) =
    function_deed connect.«open» (new_open context) (λ f over. f state over rest (record { flags = flags; mode = mode; moment = context.moment }))
message_deed connect io state context (msg.Stat rest) = function_deed connect.stat (side_root context.target) (λ f root. f state root rest context.moment)
message_deed connect io state context (msg.Unlink rest) = function_deed connect.unlink (side_root context.target) (λ f root. f state root rest context.moment)
message_deed connect io state context (msg.Mknod mode rest) = function_deed connect.mknod (side_root context.target) (λ f root. f state root mode rest context.moment)
message_deed connect io state context (msg.Rename rests) = function_deed connect.rename (side_root context.target) (λ f root. f state root rests.0 rests.1 context.moment)
message_deed connect io state context (msg.Read count) = function_deed io.read context.opened (λ f opened. f state opened count)
message_deed connect io state context (msg.Write bytes) = function_deed io.write context.opened (λ f opened. f state opened bytes)
message_deed connect io state context msg.Close = function_deed io.close context.opened (λ f opened. f state opened)
message_deed connect io state context (msg.Dup old) = function_deed io.dup (new_dup context) (λ f dup. f state dup)
message_deed connect io state context (msg.Lseek whence offset) = function_deed io.lseek context.opened (λ f opened. f state opened whence offset)
message_deed connect io state context msg.Fstat = function_deed io.fstat context.opened (λ f opened. f state opened)
message_deed connect io state context (msg.List after) = function_deed io.list context.opened (λ f opened. f state opened after)
message_deed connect io state context (msg.Notify action conditions code value) =
    function_deed io.notify context.opened (λ f opened. f state opened action (record { conditions = conditions; code = code; value = value }))
message_deed connect io state context (msg.Chmod mode) = function_deed io.chmod context.opened (λ f opened. f state opened mode)
