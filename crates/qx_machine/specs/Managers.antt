-- The managers, each as its tables of functions (Writing a Resource Manager: resmgr_connect_funcs_t, resmgr_io_funcs_t).
use Rattle.std.specs.Prelude.{ℕ, List, [], ◌∷◌, ◌++◌, Some, None, Result, Ok, Err}
use Rattle.qx_base.specs.declared.errno.Errno.{Errno}
use Rattle.qx_types.specs.declared.names.Manager.{Manager}
use Rattle.qx_types.specs.declared.names.Manager.TheVariants as manager
use Rattle.qx_wire.specs.declared.message.Message.{Message}
use Rattle.qx_machine.specs.declared.rows.Client.{Client}
use Rattle.qx_machine.specs.declared.rows.Context.{Context}
use Rattle.qx_machine.specs.declared.rows.Kind.{Kind}
use Rattle.qx_machine.specs.declared.rows.Kind.TheVariants.{Device, File, Pipe}
use Rattle.qx_machine.specs.Defaults.{chmod_block, close_dup, close_ocb, dup_open, list_block, make_directory, open_path, rename_path, stat_block, stat_path, unlink_path}
use Rattle.qx_machine.specs.Functions.{ConnectFunctions, Deed, IoFunctions, message_deed}
use Rattle.qx_machine.specs.Inodes.{blocks_of_client}
use Rattle.qx_machine.specs.Notification.{notify_block}
use Rattle.qx_machine.specs.PipeManager.{read_pipe, seek_pipe, unreplied, write_pipe}
use Rattle.qx_machine.specs.RamManager.{read_file, seek_file, write_file}
use Rattle.qx_machine.specs.Resources.{Resources}

abbrev pub ram_connect : ConnectFunctions Resources
ram_connect = record { «open» = Some (open_path File); stat = Some stat_path; unlink = Some (unlink_path File); mknod = Some make_directory; rename = Some (rename_path File) }

-- where calls may wait in a manager's own kind of inode; its mounts have no directories to be made
abbrev pub pipe_connect : Kind → ConnectFunctions Resources
pipe_connect own = record { «open» = Some (open_path own); stat = Some stat_path; unlink = Some (unlink_path own); mknod = None; rename = None }

abbrev pub ram_io : IoFunctions Resources
ram_io = record { read = Some read_file; write = Some write_file; close = Some (close_dup File); dup = Some dup_open; lseek = Some seek_file; fstat = Some stat_block; list = Some list_block; chmod = Some chmod_block; notify = Some notify_block }

abbrev pub pipe_io : Kind → IoFunctions Resources
pipe_io own = record { read = Some read_pipe; write = Some write_pipe; close = Some (close_dup own); dup = Some dup_open; lseek = Some seek_pipe; fstat = Some stat_block; list = Some list_block; chmod = Some chmod_block; notify = Some notify_block }

-- each manager serves by its own two tables
abbrev pub manager_deed : Manager → Resources → Context → Message → Result (Deed Resources) Errno
manager_deed manager.Ram = message_deed ram_connect ram_io
manager_deed manager.Pipe = message_deed (pipe_connect Pipe) (pipe_io Pipe)
manager_deed (manager.Device device) = message_deed (pipe_connect (Device device)) (pipe_io (Device device))

-- ---- a client that is gone

-- a manager's own kind of inode
abbrev pub own_kind : Manager → Kind
own_kind manager.Ram = File
own_kind manager.Pipe = Pipe
own_kind (manager.Device device) = Device device

-- what is not done changes nothing
abbrev pub or_unreplied : Resources → Result (Deed Resources) Errno → Deed Resources
or_unreplied r (Ok deed) = deed
or_unreplied r (Err error) = unreplied r

-- what follows is done with what there is then
abbrev pub and_then : Deed Resources → (Resources → Deed Resources) → Deed Resources
and_then first next = record { reply = None; state = (next first.state).state; answers = first.answers ++ (next first.state).answers }

-- open control blocks of a manager go, one after the other
abbrev pub close_all : Manager → ℕ → List ℕ → Resources → Deed Resources
close_all manager moment [] r = unreplied r
close_all manager moment (number ∷ numbers) r = and_then (or_unreplied r (close_ocb (own_kind manager) r number moment)) (close_all manager moment numbers)

-- with a client go the open control blocks that it still has, in order of making (Writing a Resource Manager: a client that terminates)
abbrev pub close_client : Resources → Client → ℕ → Deed Resources
close_client r client moment = close_all client.server.manager moment (blocks_of_client r.inodes client) r
