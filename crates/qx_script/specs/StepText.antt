-- Steps, each as the line of a script that takes it.
use Rattle.std.specs.Prelude.{ℕ, List}
use Rattle.qx_types.specs.Configuration.{Configuration}
use Rattle.qx_types.specs.declared.step.Step.{Step}
use Rattle.qx_calls.specs.Forms.{line_text}
use Rattle.qx_script.specs.Lines.{step_said}

unfoldable pub step_text : Configuration → Step → List ℕ
step_text config step = line_text config (step_said step)
