-- What is told of a user's limits: they are in their ranges, also with another value of one of them that is in its own.
use Rattle.std.proofs.Common.{◌≡◌, ℕ, ◌≤◌, ◌&&◌, Bool, true, false, nat_le, ap, arith, refl, sym}
use Rattle.std.specs.Prelude.{if◌then◌else◌}
use Rattle.std.proofs.lemmas.Bool.{and_from, and_parts, le-leb, leb-true}
use Rattle.qx_types.specs.Configuration.{Configuration, limits_of, set_limits}
use Rattle.qx_types.specs.declared.limits.TheConstants.Limits.{BLOCKS, CONNECTIONS, EVENTS, FILE, FILES, INODES, MOUNTS, PRIORITY, PROCESSES, SERVERS}
use Rattle.qx_types.specs.UserLimits.{AreLimits, IsWithin, UserLimits, default_limits, in_ranges, most_of, or_most, with_limit}
use Rattle.qx_types.specs.declared.user_limits.LimitName.{LimitName}
use Rattle.qx_types.specs.declared.user_limits.LimitName.TheVariants.{Processes, Connections, Servers, Blocks, Inodes, File, Bytes, Mounts, Events}

pub limited : (name : LimitName) (n : ℕ) (limits : UserLimits) → AreLimits limits → IsWithin (most_of name) n → AreLimits (with_limit name n limits)
limited Processes n limits within is = record { ceiling = within.ceiling; disconnect = within.disconnect; processes = is; connections = within.connections; servers = within.servers; blocks = within.blocks; inodes = within.inodes; file = within.file; bytes = within.bytes; mounts = within.mounts; events = within.events }
limited Connections n limits within is = record { ceiling = within.ceiling; disconnect = within.disconnect; processes = within.processes; connections = is; servers = within.servers; blocks = within.blocks; inodes = within.inodes; file = within.file; bytes = within.bytes; mounts = within.mounts; events = within.events }
limited Servers n limits within is = record { ceiling = within.ceiling; disconnect = within.disconnect; processes = within.processes; connections = within.connections; servers = is; blocks = within.blocks; inodes = within.inodes; file = within.file; bytes = within.bytes; mounts = within.mounts; events = within.events }
limited Blocks n limits within is = record { ceiling = within.ceiling; disconnect = within.disconnect; processes = within.processes; connections = within.connections; servers = within.servers; blocks = is; inodes = within.inodes; file = within.file; bytes = within.bytes; mounts = within.mounts; events = within.events }
limited Inodes n limits within is = record { ceiling = within.ceiling; disconnect = within.disconnect; processes = within.processes; connections = within.connections; servers = within.servers; blocks = within.blocks; inodes = is; file = within.file; bytes = within.bytes; mounts = within.mounts; events = within.events }
limited File n limits within is = record { ceiling = within.ceiling; disconnect = within.disconnect; processes = within.processes; connections = within.connections; servers = within.servers; blocks = within.blocks; inodes = within.inodes; file = is; bytes = within.bytes; mounts = within.mounts; events = within.events }
limited Bytes n limits within is = record { ceiling = within.ceiling; disconnect = within.disconnect; processes = within.processes; connections = within.connections; servers = within.servers; blocks = within.blocks; inodes = within.inodes; file = within.file; bytes = is; mounts = within.mounts; events = within.events }
limited Mounts n limits within is = record { ceiling = within.ceiling; disconnect = within.disconnect; processes = within.processes; connections = within.connections; servers = within.servers; blocks = within.blocks; inodes = within.inodes; file = within.file; bytes = within.bytes; mounts = is; events = within.events }
limited Events n limits within is = record { ceiling = within.ceiling; disconnect = within.disconnect; processes = within.processes; connections = within.connections; servers = within.servers; blocks = within.blocks; inodes = within.inodes; file = within.file; bytes = within.bytes; mounts = within.mounts; events = is }

pub default_within : AreLimits default_limits
default_within = record { ceiling = (omega arith, omega arith); disconnect = (omega arith, omega arith); processes = (omega arith, omega arith); connections = (omega arith, omega arith); servers = (omega arith, omega arith); blocks = (omega arith, omega arith); inodes = (omega arith, omega arith); file = (omega arith, omega arith); bytes = (omega arith, omega arith); mounts = (omega arith, omega arith); events = (omega arith, omega arith) }

-- ---- a number that is in its range, or the greatest

or_most_within : (most n : ℕ) → 1 ≤ most → IsWithin most (or_most most n)
or_most_within most n some = by (nat_le 1 n && nat_le n most) refl
  where
    by : (b : Bool) → (nat_le 1 n && nat_le n most) ≡ b → IsWithin most (if b then n else most)
    by true is = let both = and_parts (nat_le 1 n) (nat_le n most) is in (leb-true 1 n both.0, leb-true n most both.1)
    by false is = (some, omega arith)

or_most_same : (most n : ℕ) → IsWithin most n → n ≡ or_most most n
or_most_same most n is = ap (λ b. if b then n else most) (sym (and_from (nat_le 1 n) (nat_le n most) (le-leb 1 n is.0) (le-leb n most is.1)))

-- limits that are in their ranges are themselves
pub in_ranges_same : (limits : UserLimits) → AreLimits limits → limits ≡ in_ranges limits
in_ranges_same limits within = λ i. record { ceiling = or_most_same PRIORITY limits.ceiling within.ceiling i; disconnect = or_most_same PRIORITY limits.disconnect within.disconnect i; processes = or_most_same PROCESSES limits.processes within.processes i; connections = or_most_same CONNECTIONS limits.connections within.connections i; servers = or_most_same SERVERS limits.servers within.servers i; blocks = or_most_same BLOCKS limits.blocks within.blocks i; inodes = or_most_same INODES limits.inodes within.inodes i; file = or_most_same FILE limits.file within.file i; bytes = or_most_same FILES limits.bytes within.bytes i; mounts = or_most_same MOUNTS limits.mounts within.mounts i; events = or_most_same EVENTS limits.events within.events i }

in_ranges_within : (limits : UserLimits) → AreLimits (in_ranges limits)
in_ranges_within limits = record { ceiling = or_most_within PRIORITY limits.ceiling (omega arith); disconnect = or_most_within PRIORITY limits.disconnect (omega arith); processes = or_most_within PROCESSES limits.processes (omega arith); connections = or_most_within CONNECTIONS limits.connections (omega arith); servers = or_most_within SERVERS limits.servers (omega arith); blocks = or_most_within BLOCKS limits.blocks (omega arith); inodes = or_most_within INODES limits.inodes (omega arith); file = or_most_within FILE limits.file (omega arith); bytes = or_most_within FILES limits.bytes (omega arith); mounts = or_most_within MOUNTS limits.mounts (omega arith); events = or_most_within EVENTS limits.events (omega arith) }

pub limits_within : (config : Configuration) (user : ℕ) → AreLimits (limits_of config user)
unfolding limits_of
limits_within config user = in_ranges_within (set_limits config user)
