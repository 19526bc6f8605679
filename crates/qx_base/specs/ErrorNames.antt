-- The names of errors, as they are printed.
use Rattle.std.specs.Prelude.{ℕ, List, codes}
use Rattle.qx_base.specs.declared.errno.Errno.{Errno}
use Rattle.qx_base.specs.declared.errno.Errno.TheVariants.{EACCES, EAGAIN, EBADF, EBUSY, EEXIST, EFBIG, EINTR, EINVAL, EISDIR, EMFILE, ENAMETOOLONG, ENFILE, ENOENT, ENOSPC, ENOSYS, ENOTDIR, ENOTEMPTY, EPERM, EPIPE, ESPIPE, EXDEV}

abbrev pub errno_name : Errno → List ℕ
errno_name EACCES = codes "EACCES"
errno_name EAGAIN = codes "EAGAIN"
errno_name EBADF = codes "EBADF"
errno_name EBUSY = codes "EBUSY"
errno_name EEXIST = codes "EEXIST"
errno_name EFBIG = codes "EFBIG"
errno_name EINTR = codes "EINTR"
errno_name EINVAL = codes "EINVAL"
errno_name EISDIR = codes "EISDIR"
errno_name EMFILE = codes "EMFILE"
errno_name ENAMETOOLONG = codes "ENAMETOOLONG"
errno_name ENFILE = codes "ENFILE"
errno_name ENOENT = codes "ENOENT"
errno_name ENOSPC = codes "ENOSPC"
errno_name ENOSYS = codes "ENOSYS"
errno_name ENOTDIR = codes "ENOTDIR"
errno_name ENOTEMPTY = codes "ENOTEMPTY"
errno_name EPERM = codes "EPERM"
errno_name EPIPE = codes "EPIPE"
errno_name ESPIPE = codes "ESPIPE"
errno_name EXDEV = codes "EXDEV"
