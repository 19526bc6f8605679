-- What `qx_steps` says of a world, handed on: what its workers hold, and that some steps led to it.
pub use Rattle.qx_steps.specs.Held.{held_work, IsStale}
pub use Rattle.qx_steps.specs.Reached.{IsReached}
pub use Rattle.qx_steps.specs.declared.work.PerformFault.{PerformFault}
