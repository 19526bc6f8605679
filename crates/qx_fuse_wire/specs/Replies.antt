-- The bytes of replies, as <linux/fuse.h> has them.
use Rattle.std.specs.Prelude.{ℕ, ◌+◌, ◌-◌, ◌%◌, ◌^◌, List, [], ◌∷◌, ◌++◌, length, replicate, flat_map}
use Rattle.std.specs.Int.{w16, w32, w64, to_le_bytes}
use Rattle.qx_base.specs.declared.errno.Errno.{Errno}
use Rattle.qx_base.specs.declared.errno.Errno.TheVariants as errno
use Rattle.qx_fuse_wire.specs.declared.numbers.Number.{Number}
use Rattle.qx_fuse_wire.specs.declared.numbers.Number.TheVariants.{Half, Word, Long}
use Rattle.qx_fuse_wire.specs.declared.reply.Agreed.{Agreed}
use Rattle.qx_fuse_wire.specs.declared.reply.Attributes.{Attributes}
use Rattle.qx_fuse_wire.specs.declared.reply.Entry.{Entry}
use Rattle.qx_fuse_wire.specs.declared.reply.Failure.{Failure}
use Rattle.qx_fuse_wire.specs.declared.reply.Failure.TheVariants as failure
use Rattle.qx_fuse_wire.specs.declared.reply.FileSystem.{FileSystem}
use Rattle.qx_fuse_wire.specs.declared.reply.Reply.{Reply}
use Rattle.qx_fuse_wire.specs.declared.reply.Reply.TheVariants as reply

-- the lowest byte first
abbrev pub number_bytes : Number → List ℕ
number_bytes (Half n) = to_le_bytes w16 n
number_bytes (Word n) = to_le_bytes w32 n
number_bytes (Long n) = to_le_bytes w64 n

abbrev pub numbers_bytes : List Number → List ℕ
numbers_bytes numbers = flat_map number_bytes numbers

-- ---- parts

unfoldable pub attributes_bytes : Attributes → List ℕ
attributes_bytes a = numbers_bytes (
    Long a.node ∷ Long a.size ∷ Long a.blocks ∷ Long a.times.access_seconds ∷ Long a.times.modify_seconds ∷ Long a.times.change_seconds ∷
    Word a.times.access_nanoseconds ∷ Word a.times.modify_nanoseconds ∷ Word a.times.change_nanoseconds ∷ Word a.mode ∷ Word a.links ∷ Word a.user ∷
    Word a.group ∷ Word a.device ∷ Word a.block_size ∷ Word 0 ∷ [])

unfoldable pub entry_bytes : Entry → List ℕ
entry_bytes e =
    numbers_bytes (Long e.node ∷ Long e.generation ∷ Long e.name_seconds ∷ Long e.attributes_seconds ∷ Word e.name_nanoseconds ∷ Word e.attributes_nanoseconds ∷ [])
    ++ attributes_bytes e.attributes

abbrev pub opened_bytes : ℕ → ℕ → List ℕ
opened_bytes handle open_flags = numbers_bytes (Long handle ∷ Word open_flags ∷ Word 0 ∷ [])

unfoldable pub file_system_bytes : FileSystem → List ℕ
file_system_bytes s = numbers_bytes (
    Long s.blocks ∷ Long s.free_blocks ∷ Long s.available_blocks ∷ Long s.files ∷ Long s.free_files ∷ Word s.block_size ∷ Word s.name_length ∷
    Word s.fragment_size ∷ Word 0 ∷ Long 0 ∷ Long 0 ∷ Long 0 ∷ [])

unfoldable pub agreed_bytes : Agreed → List ℕ
agreed_bytes a = numbers_bytes (
    Word 7 ∷ Word a.minor ∷ Word a.readahead ∷ Word a.flags ∷ Half a.background ∷ Half a.congestion ∷ Word a.write_size ∷ Word a.time_step ∷
    Half a.pages ∷ Half 0 ∷ Word a.more_flags ∷ Word 0 ∷ Long 0 ∷ Long 0 ∷ Long 0 ∷ [])

-- ---- replies

abbrev pub errno_number : Errno → ℕ
errno_number errno.EACCES = 13
errno_number errno.EAGAIN = 11
errno_number errno.EBADF = 9
errno_number errno.EBUSY = 16
errno_number errno.EEXIST = 17
errno_number errno.EFBIG = 27
errno_number errno.EINTR = 4
errno_number errno.EINVAL = 22
errno_number errno.EISDIR = 21
errno_number errno.EMFILE = 24
errno_number errno.ENAMETOOLONG = 36
errno_number errno.ENFILE = 23
errno_number errno.ENOENT = 2
errno_number errno.ENOSPC = 28
errno_number errno.ENOSYS = 38
errno_number errno.ENOTDIR = 20
errno_number errno.ENOTEMPTY = 39
errno_number errno.EPERM = 1
errno_number errno.EPIPE = 32
errno_number errno.ESPIPE = 29
errno_number errno.EXDEV = 18

abbrev pub failure_number : Failure → ℕ
failure_number (failure.Refused error) = errno_number error
failure_number failure.Malformed = 5
failure_number failure.Memory = 12
failure_number failure.Protocol = 71

-- the number of the error, 0 for none
abbrev pub error_number : Reply → ℕ
error_number (reply.Failed failure) = failure_number failure
error_number other = 0

abbrev pub body_bytes : Reply → List ℕ
body_bytes reply.Done = []
body_bytes (reply.Failed failure) = []
body_bytes (reply.Entry entry) = entry_bytes entry
body_bytes (reply.Attributes seconds nanoseconds attributes) = numbers_bytes (Long seconds ∷ Word nanoseconds ∷ Word 0 ∷ []) ++ attributes_bytes attributes
body_bytes (reply.Opened handle open_flags) = opened_bytes handle open_flags
body_bytes (reply.Created entry handle open_flags) = entry_bytes entry ++ opened_bytes handle open_flags
body_bytes (reply.Bytes bytes) = bytes
body_bytes (reply.Written size) = numbers_bytes (Word size ∷ Word 0 ∷ [])
body_bytes (reply.FileSystem state) = file_system_bytes state
body_bytes (reply.Agreed agreed) = agreed_bytes agreed
body_bytes (reply.Offset offset) = numbers_bytes (Long offset ∷ [])
body_bytes (reply.Events events) = numbers_bytes (Word events ∷ Word 0 ∷ [])

-- how many bytes were read, where the reply has those
abbrev pub bytes_read : Reply → ℕ
bytes_read (reply.Bytes bytes) = length bytes
bytes_read other = 0

-- in two's complement
abbrev pub minus : ℕ → ℕ
minus n = (2 ^ 32 - n) % 2 ^ 32

-- length, error with its sign turned, and number of the request
abbrev pub header_bytes : ℕ → ℕ → ℕ → List ℕ
header_bytes length error unique = numbers_bytes (Word length ∷ Word (minus error) ∷ Long unique ∷ [])

unfoldable pub reply_bytes : ℕ → Reply → List ℕ
reply_bytes unique it = header_bytes (16 + length (body_bytes it)) (error_number it) unique ++ body_bytes it

-- ---- notifications

-- who polls under that number may ask again: a header with the number of the notification, 1, in place of an error, and no request
unfoldable pub wake_bytes : ℕ → List ℕ
wake_bytes waiter = numbers_bytes (Word 24 ∷ Word 1 ∷ Long 0 ∷ Long waiter ∷ [])

-- ---- names of a directory

-- up to a multiple of 8
abbrev pub padding : ℕ → ℕ
padding length = (8 - length % 8) % 8

-- a node, where the list goes on, the length of the name, the kind of the node, and the name
unfoldable pub name_bytes : ℕ → ℕ → ℕ → List ℕ → List ℕ
name_bytes node next kind name = numbers_bytes (Long node ∷ Long next ∷ Word (length name) ∷ Word kind ∷ []) ++ (name ++ replicate (padding (length name)) 0)

-- the same behind what a look-up tells
unfoldable pub full_name_bytes : Entry → ℕ → ℕ → List ℕ → List ℕ
full_name_bytes entry next kind name = entry_bytes entry ++ name_bytes entry.attributes.node next kind name
