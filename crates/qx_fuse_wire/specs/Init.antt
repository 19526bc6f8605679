-- What is agreed at INIT.
use Rattle.std.specs.Prelude.{ℕ, min, bit_and, nat_lt, if◌then◌else◌, Option, Some, None}
use Rattle.qx_fuse_wire.specs.declared.body.Body.{Body}
use Rattle.qx_fuse_wire.specs.declared.body.Body.TheVariants as body
use Rattle.qx_fuse_wire.specs.declared.init.Wanted.{Wanted}
use Rattle.qx_fuse_wire.specs.declared.reply.Agreed.{Agreed}
use Rattle.qx_fuse_wire.specs.declared.reply.Failure.TheVariants.{Protocol}
use Rattle.qx_fuse_wire.specs.declared.reply.Reply.{Reply}
use Rattle.qx_fuse_wire.specs.declared.reply.Reply.TheVariants as reply

-- 7.31, the smaller readahead, the flags that are offered and wanted, and the rest as it is wanted
abbrev pub agreed : ℕ → ℕ → ℕ → Wanted → Agreed
agreed readahead flags more_flags wanted = record {
  minor = 31;
  readahead = min readahead wanted.readahead;
  flags = bit_and flags wanted.flags;
  background = wanted.background;
  congestion = wanted.congestion;
  write_size = wanted.write_size;
  time_step = wanted.time_step;
  pages = wanted.pages;
  more_flags = bit_and more_flags wanted.more_flags;
}

-- nothing, until the kernel has asked again
abbrev pub nothing : Wanted
nothing = record { readahead = 0; flags = 0; more_flags = 0; background = 0; congestion = 0; write_size = 0; time_step = 0; pages = 0 }

-- a newer protocol is told 7.31, and an older one is refused
abbrev pub init_reply : Body → Wanted → Option Reply
init_reply (body.Offer minor readahead flags more_flags) wanted = Some (reply.Agreed (agreed readahead flags more_flags wanted))
init_reply (body.OtherVersion major minor) wanted = if nat_lt 7 major then Some (reply.Agreed (agreed 0 0 0 nothing)) else Some (reply.Failed Protocol)
init_reply other wanted = None
