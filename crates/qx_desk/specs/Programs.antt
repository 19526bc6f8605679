-- What is done for one input: steps of one user, one after the other, each chosen by what was written at the ones before it (this profile).
use Rattle.std.specs.Prelude.{ℕ, List, [], ◌∷◌, if◌then◌else◌}
use Rattle.qx_types.specs.declared.step.Step.{Step}
use Rattle.qx_isolation.specs.declared.rows.Seen.{Seen}
use Rattle.qx_machine.specs.Machine.{World}
use Rattle.qx_live.specs.Live.{Session, after_line, is_line_of}
use Rattle.qx_live.specs.declared.line.LiveLine.{LiveLine}

-- it is done with a value; or it takes a step, and goes on with what was written for the user at that step
pub data Program (A : Type 0) : Type 0 where
  Done : A → Program A
  Take : Step → (List Seen → Program A) → Program A

-- one program, and then another, chosen by the value of the first
infixl 10 ◌>>=◌
abbrev pub ◌>>=◌ : {A B : Type 0} → Program A → (A → Program B) → Program B
(Done value) >>= next = next value
(Take e more) >>= next = Take e (λ seen. more seen >>= next)

-- a step is taken, and nothing else
abbrev pub take : Step → Program (List Seen)
take e = Take e Done

-- steps that are taken whatever is written at them
abbrev pub each_taken : {A : Type 0} → List Step → A → Program A
each_taken [] value = Done value
each_taken (e ∷ steps) value = Take e (λ seen. each_taken steps value)

-- ---- what a program leads to

-- the world after a program, and its value
pub record Ran (A : Type 0) : Type 0 where
  pub world : World
  pub value : A

-- a line of the user is a session's line; a line of anybody else leads to nothing
abbrev pub line_for : ℕ → World → LiveLine → Session
line_for user w line = if is_line_of user line then after_line (record { world = w; written = [] }) line else record { world = w; written = [] }

-- a program of a user, all at one moment
abbrev pub ran : {A : Type 0} → ℕ → ℕ → World → Program A → Ran A
ran user moment w (Done value) = record { world = w; value = value }
ran user moment w (Take e more) =
    let after = line_for user w (record { moment = moment; step = e }) in
    ran user moment after.world (more after.written)

-- ---- words of the laws

-- the lines of the user that it takes
abbrev pub lines_taken : {A : Type 0} → ℕ → ℕ → World → Program A → List LiveLine
lines_taken user moment w (Done value) = []
lines_taken user moment w (Take e more) =
    let line : LiveLine = record { moment = moment; step = e } in
    let after = line_for user w line in
    let rest = lines_taken user moment after.world (more after.written) in
    if is_line_of user line then line ∷ rest else rest
