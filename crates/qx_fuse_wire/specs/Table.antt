-- The table of requests: what stands in which of them, as <linux/fuse.h> has it.
use Rattle.std.specs.Prelude.{ℕ, ◌*◌, ◌&&◌, ◌==◌, nat_le, if◌then◌else◌, List, [], ◌∷◌, length, Option, Some, None}
use Rattle.qx_fuse_wire.specs.declared.body.Header.{Header}
use Rattle.qx_fuse_wire.specs.declared.body.Body.{Body}
use Rattle.qx_fuse_wire.specs.declared.body.Body.TheVariants as body
use Rattle.qx_fuse_wire.specs.declared.body.Times.{Times}
use Rattle.qx_fuse_wire.specs.declared.body.Opened.{Opened}
use Rattle.qx_fuse_wire.specs.declared.body.Opened.TheVariants.{File, Directory}
use Rattle.qx_fuse_wire.specs.declared.body.Reads.{Reads}
use Rattle.qx_fuse_wire.specs.declared.body.Reads.TheVariants as reads
use Rattle.qx_fuse_wire.specs.Forms.{Field, Form, Maker, two_bytes, four_bytes, eight_bytes, end, all, skip, ◌then◌, number, a_name, a_text, pairs, read}

abbrev pub u16 : Field
u16 = number two_bytes

abbrev pub u32 : Field
u32 = number four_bytes

abbrev pub u64 : Field
u64 = number eight_bytes

-- ---- the header

-- user, group, process, extensions, and two bytes that say nothing
abbrev pub caller_form : Form
caller_form = u32 then u32 then u32 then u16 then skip 2 all

abbrev pub caller_made : ℕ → ℕ → ℕ → ℕ → Maker caller_form (Header × List ℕ)
caller_made length opcode unique node = λ user group process extensions rest. Some (record { length = length; opcode = opcode; unique = unique; node = node; user = user; group = group; process = process; extensions = extensions }, rest)

-- length, opcode, unique, node and those
abbrev pub header_form : Form
header_form = u32 then u32 then u64 then u64 then caller_form

abbrev pub header_made : Maker header_form (Header × List ℕ)
header_made = caller_made

-- ---- the lines

-- a kind of request: its opcode, what stands in its body, and what that makes
pub record Line : Type 0 where
  pub opcode : ℕ
  pub form : Form
  pub made : Maker form Body

abbrev pub line : ℕ → (form : Form) → Maker form Body → Line
line opcode form made = record { opcode = opcode; form = form; made = made }

abbrev pub read_line : Line → List ℕ → Option Body
read_line it bytes = read it.form it.made bytes

abbrev pub lookup : Line
lookup = line 1 (a_name then end) (λ name. Some (body.Lookup name))

abbrev pub forget : Line
forget = line 2 (u64 then end) (λ lookups. Some (body.Forget lookups))

abbrev pub get_attributes : Line
get_attributes = line 3 (u32 then skip 4 (u64 then end)) (λ flags handle. Some (body.GetAttributes flags handle))

-- SETATTR, from its times on, and from its mode on
abbrev pub owner_form : Form
owner_form = u32 then skip 4 (u32 then u32 then skip 4 end)

abbrev pub times_form : Form
times_form = u64 then u64 then u64 then u32 then u32 then u32 then owner_form

abbrev pub set_times : (Times → Maker owner_form Body) → Maker times_form Body
set_times made = λ access_seconds modify_seconds change_seconds access_nanoseconds modify_nanoseconds change_nanoseconds. made (record { access_seconds = access_seconds; modify_seconds = modify_seconds; change_seconds = change_seconds; access_nanoseconds = access_nanoseconds; modify_nanoseconds = modify_nanoseconds; change_nanoseconds = change_nanoseconds })

abbrev pub set_owner : ℕ → ℕ → ℕ → ℕ → Times → Maker owner_form Body
set_owner valid handle size lock_owner times = λ mode user group. Some (body.SetAttributes valid handle size lock_owner times mode user group)

abbrev pub set_attributes : Line
set_attributes = line 4 (u32 then skip 4 (u64 then u64 then u64 then times_form)) (λ valid handle size lock_owner. set_times (set_owner valid handle size lock_owner))

abbrev pub read_link : Line
read_link = line 5 end (Some body.ReadLink)

abbrev pub symbolic_link : Line
symbolic_link = line 6 (a_name then a_text then end) (λ name target. Some (body.SymbolicLink name target))

abbrev pub make_node : Line
make_node = line 8 (u32 then u32 then u32 then skip 4 (a_name then end)) (λ mode device umask name. Some (body.MakeNode mode device umask name))

abbrev pub make_directory : Line
make_directory = line 9 (u32 then u32 then a_name then end) (λ mode umask name. Some (body.MakeDirectory mode umask name))

abbrev pub unlink : Line
unlink = line 10 (a_name then end) (λ name. Some (body.Unlink name))

abbrev pub remove_directory : Line
remove_directory = line 11 (a_name then end) (λ name. Some (body.RemoveDirectory name))

-- RENAME is RENAME2 without flags
abbrev pub rename : Line
rename = line 12 (u64 then a_name then a_name then end) (λ directory from to. Some (body.Rename directory 0 from to))

abbrev pub rename_2 : Line
rename_2 = line 45 (u64 then u32 then skip 4 (a_name then a_name then end)) (λ directory flags from to. Some (body.Rename directory flags from to))

abbrev pub link : Line
link = line 13 (u64 then a_name then end) (λ node name. Some (body.Link node name))

abbrev pub open_opcode : Opened → ℕ
open_opcode File = 14
open_opcode Directory = 27

abbrev pub release_opcode : Opened → ℕ
release_opcode File = 18
release_opcode Directory = 29

abbrev pub sync_opcode : Opened → ℕ
sync_opcode File = 20
sync_opcode Directory = 30

abbrev pub read_opcode : Reads → ℕ
read_opcode reads.Bytes = 15
read_opcode reads.Names = 28
read_opcode reads.Entries = 44

abbrev pub open_line : Opened → Line
open_line opened = line (open_opcode opened) (u32 then u32 then end) (λ flags open_flags. Some (body.Open opened flags open_flags))

abbrev pub release : Opened → Line
release opened = line (release_opcode opened) (u64 then u32 then u32 then u64 then end) (λ handle flags release_flags lock_owner. Some (body.Release opened handle flags release_flags lock_owner))

abbrev pub sync : Opened → Line
sync opened = line (sync_opcode opened) (u64 then u32 then skip 4 end) (λ handle flags. Some (body.Sync opened handle flags))

-- READ and WRITE, from the owner of a lock on
abbrev pub lock_form : Form → Form
lock_form form = u64 then u32 then skip 4 form

abbrev pub read_made : Reads → ℕ → ℕ → ℕ → ℕ → Maker (lock_form end) Body
read_made what handle offset size read_flags = λ lock_owner flags. Some (body.Read what handle offset size read_flags lock_owner flags)

abbrev pub read_from : Reads → Line
read_from what = line (read_opcode what) (u64 then u64 then u32 then u32 then lock_form end) (read_made what)

-- there are as many bytes as the size says
abbrev pub write_made : ℕ → ℕ → ℕ → ℕ → Maker (lock_form all) Body
write_made handle offset size write_flags = λ lock_owner flags bytes. if length bytes == size then Some (body.Write handle offset write_flags lock_owner flags bytes) else None

abbrev pub write : Line
write = line 16 (u64 then u64 then u32 then u32 then lock_form all) write_made

abbrev pub file_system : Line
file_system = line 17 end (Some body.FileSystem)

abbrev pub flush : Line
flush = line 25 (u64 then skip 8 (u64 then end)) (λ handle lock_owner. Some (body.Flush handle lock_owner))

-- flags of INIT since 7.36, and 44 bytes that say nothing; before, no bytes stand there
abbrev pub more_flags : (ℕ → Body) → List ℕ → Option Body
more_flags made bytes = if length bytes == 0 then Some (made 0) else read (u32 then skip 44 end) (λ flags. Some (made flags)) bytes

-- what stands behind the version
abbrev pub offer : ℕ → List ℕ → Option Body
offer minor bytes = read (u32 then u32 then all) (λ readahead flags bytes. more_flags (λ more_flags. body.Offer minor readahead flags more_flags) bytes) bytes

-- of another version nothing but that is read
abbrev pub init : Line
init = line 26 (u32 then u32 then all) (λ major minor bytes. if major == 7 && nat_le 31 minor then offer minor bytes else Some (body.OtherVersion major minor))

abbrev pub access : Line
access = line 34 (u32 then skip 4 end) (λ mask. Some (body.Access mask))

abbrev pub create : Line
create = line 35 (u32 then u32 then u32 then u32 then a_name then end) (λ flags mode umask open_flags name. Some (body.Create flags mode umask open_flags name))

abbrev pub interrupt : Line
interrupt = line 36 (u64 then end) (λ unique. Some (body.Interrupt unique))

abbrev pub destroy : Line
destroy = line 38 end (Some body.Destroy)

abbrev pub poll : Line
poll = line 40 (u64 then u64 then u32 then u32 then end) (λ handle waiter flags events. Some (body.Poll handle waiter flags events))

-- there are as many pairs as the count says
abbrev pub batch_forget : Line
batch_forget = line 42 (u32 then skip 4 all) (λ count bytes. if length bytes == 16 * count then Some (body.BatchForget (pairs count bytes)) else None)

abbrev pub seek : Line
seek = line 46 (u64 then u64 then u32 then skip 4 end) (λ handle offset whence. Some (body.Seek handle offset whence))

abbrev pub table : List Line
table =
    lookup ∷ forget ∷ get_attributes ∷ set_attributes ∷ read_link ∷ symbolic_link ∷ make_node ∷ make_directory ∷ unlink ∷ remove_directory ∷
    rename ∷ link ∷ open_line File ∷ read_from reads.Bytes ∷ write ∷ file_system ∷ release File ∷ sync File ∷ flush ∷ init ∷
    open_line Directory ∷ read_from reads.Names ∷ release Directory ∷ sync Directory ∷ access ∷ create ∷ interrupt ∷ destroy ∷ poll ∷
    batch_forget ∷ read_from reads.Entries ∷ rename_2 ∷ seek ∷ []
