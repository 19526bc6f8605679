-- What one user may hold and ask for (this profile).
use Rattle.std.specs.Prelude.{ℕ, ◌≤◌, ◌&&◌, nat_le, if◌then◌else◌}
use Rattle.qx_types.specs.declared.limits.TheConstants.Limits as most
use Rattle.qx_types.specs.declared.user_limits.LimitName.{LimitName}
use Rattle.qx_types.specs.declared.user_limits.LimitName.TheVariants.{Processes, Connections, Servers, Blocks, Inodes, File, Bytes, Mounts, Events}

-- how many of each there may be of one user, the ceiling, which is the greatest priority that the user may give a thread, and the
-- priority of the user's disconnect pulses
pub record UserLimits : Type 0 where
  pub ceiling : ℕ
  pub disconnect : ℕ
  pub processes : ℕ
  pub connections : ℕ
  pub servers : ℕ
  pub blocks : ℕ
  pub inodes : ℕ
  pub file : ℕ
  pub bytes : ℕ
  pub mounts : ℕ
  pub events : ℕ

-- the greatest value of a limit, which is its default
abbrev pub most_of : LimitName → ℕ
most_of Processes = most.PROCESSES
most_of Connections = most.CONNECTIONS
most_of Servers = most.SERVERS
most_of Blocks = most.BLOCKS
most_of Inodes = most.INODES
most_of File = most.FILE
most_of Bytes = most.FILES
most_of Mounts = most.MOUNTS
most_of Events = most.EVENTS

-- one of the limits
abbrev pub limit_in : LimitName → UserLimits → ℕ
limit_in Processes limits = limits.processes
limit_in Connections limits = limits.connections
limit_in Servers limits = limits.servers
limit_in Blocks limits = limits.blocks
limit_in Inodes limits = limits.inodes
limit_in File limits = limits.file
limit_in Bytes limits = limits.bytes
limit_in Mounts limits = limits.mounts
limit_in Events limits = limits.events

-- where the configuration sets none
abbrev pub default_limits : UserLimits
default_limits = record {
  ceiling = most.CEILING;
  disconnect = most.PRIORITY;
  processes = most.PROCESSES;
  connections = most.CONNECTIONS;
  servers = most.SERVERS;
  blocks = most.BLOCKS;
  inodes = most.INODES;
  file = most.FILE;
  bytes = most.FILES;
  mounts = most.MOUNTS;
  events = most.EVENTS;
}

-- another value of one limit
abbrev pub with_limit : LimitName → ℕ → UserLimits → UserLimits
with_limit Processes n limits = record limits { processes = n }
with_limit Connections n limits = record limits { connections = n }
with_limit Servers n limits = record limits { servers = n }
with_limit Blocks n limits = record limits { blocks = n }
with_limit Inodes n limits = record limits { inodes = n }
with_limit File n limits = record limits { file = n }
with_limit Bytes n limits = record limits { bytes = n }
with_limit Mounts n limits = record limits { mounts = n }
with_limit Events n limits = record limits { events = n }

-- a number that is from 1 to the greatest, and else the greatest
abbrev pub or_most : ℕ → ℕ → ℕ
or_most most n = if nat_le 1 n && nat_le n most then n else most

-- limits of which each is in its range
abbrev pub in_ranges : UserLimits → UserLimits
in_ranges limits = record {
  ceiling = or_most most.PRIORITY limits.ceiling;
  disconnect = or_most most.PRIORITY limits.disconnect;
  processes = or_most most.PROCESSES limits.processes;
  connections = or_most most.CONNECTIONS limits.connections;
  servers = or_most most.SERVERS limits.servers;
  blocks = or_most most.BLOCKS limits.blocks;
  inodes = or_most most.INODES limits.inodes;
  file = or_most most.FILE limits.file;
  bytes = or_most most.FILES limits.bytes;
  mounts = or_most most.MOUNTS limits.mounts;
  events = or_most most.EVENTS limits.events;
}

abbrev pub IsWithin : ℕ → ℕ → Type 0
IsWithin most n = (1 ≤ n) × (n ≤ most)

-- each limit is in its range
pub record AreLimits (limits : UserLimits) : Type 0 where
  pub ceiling : IsWithin most.PRIORITY limits.ceiling
  pub disconnect : IsWithin most.PRIORITY limits.disconnect
  pub processes : IsWithin most.PROCESSES limits.processes
  pub connections : IsWithin most.CONNECTIONS limits.connections
  pub servers : IsWithin most.SERVERS limits.servers
  pub blocks : IsWithin most.BLOCKS limits.blocks
  pub inodes : IsWithin most.INODES limits.inodes
  pub file : IsWithin most.FILE limits.file
  pub bytes : IsWithin most.FILES limits.bytes
  pub mounts : IsWithin most.MOUNTS limits.mounts
  pub events : IsWithin most.EVENTS limits.events
