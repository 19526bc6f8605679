-- What the lines of a script ask for is what a line can say.
use Rattle.std.proofs.Common.{◌≡◌, ℕ, ◌≤◌, true, List, [], ◌∷◌, Some, arith, subst}
use Rattle.std.specs.Prelude.{codes}
use Rattle.std.specs.List.{list_all}
use Rattle.std.specs.Str.{bytes_eq}
use Rattle.std.proofs.lemmas.Bool.{and_parts}
use Rattle.qx_types.specs.declared.step.Step.{Step}
use Rattle.qx_script.specs.declared.command.Command.{Command}
use Rattle.qx_script.specs.declared.command.Command.TheVariants.{Take, Serve, Do, Show, Erased, Trace}
use Rattle.qx_calls.specs.inner.Calls.{CanSayCall}
use Rattle.qx_calls.specs.Calls.{call_in_line}
use Rattle.qx_calls.proofs.ReadCalls.{call_within}
use Rattle.qx_words.specs.Kinds.{is_word}
use Rattle.qx_script.specs.Lines.{CanSay, call_step, command_lines, command_of, do_of, step_lines, step_in_line}
use Rattle.qx_words.specs.Words.{greatest_moment, moment_of}
use Rattle.qx_calls.proofs.ReadForms.{Makes, by_name, one_of_within}
use Rattle.qx_words.proofs.ReadValues.{bind_some, mapped, number_within, of_some}

abbrev pub IsMoment : ℕ → Type 0
IsMoment moment = moment ≤ greatest_moment

-- a command of numbers, names and words that a line can say
abbrev pub CanSayCommand : List (List ℕ) → Command → Type 0
CanSayCommand users (Take step) = CanSay users step
CanSayCommand users (Serve moment) = IsMoment moment
CanSayCommand users (Do moment thread request) = IsMoment moment × CanSayCall users (thread, request)
CanSayCommand users (Show user) = Unit {0}
CanSayCommand users (Erased user) = Unit {0}
CanSayCommand users Trace = Unit {0}

steps_make : (users : List (List ℕ)) → Makes users (CanSay users) step_lines
steps_make users = grind arith

commands_make : (users : List (List ℕ)) → Makes users (CanSayCommand users) command_lines
commands_make users = grind arith

step_within : (users : List (List ℕ)) (name : List ℕ) (words : List (List ℕ)) (step : Step) → list_all is_word words ≡ true → step_in_line users name words ≡ Some step → CanSay users step
unfolding step_in_line
step_within users name words step all is =
    one_of_within (CanSay users) step_lines _ users name words step all (steps_make users)
    (λ called. let call = mapped call_step (call_in_line users name words) step called in subst (CanSay users) call.2 (call_within users name words call.0 all call.1).1) is

do_within : (users words : List (List ℕ)) (command : Command) → list_all is_word words ≡ true → do_of users words ≡ Some command → CanSayCommand users command
unfolding do_of
do_within users [] command all is = cc
do_within users (word ∷ []) command all is = cc
do_within users (word ∷ name ∷ words) command all is =
    let moment = bind_some (moment_of word) _ command is in
    let call = bind_some (call_in_line users name words) _ command moment.2 in
    let rest = and_parts (is_word name) _ (and_parts (is_word word) _ all).1 in
    subst (CanSayCommand users) (of_some _ command call.2)
    (number_within greatest_moment word moment.0 moment.1, call_within users name words call.0 rest.1 call.1)

pub command_within : (users : List (List ℕ)) (name : List ℕ) (words : List (List ℕ)) (command : Command) → list_all is_word words ≡ true
    → command_of users name words ≡ Some command → CanSayCommand users command
unfolding command_of
command_within users name words command all is =
    by_name (bytes_eq name (codes "do")) (do_of users words) _ command (CanSayCommand users command) (do_within users words command all)
    (one_of_within (CanSayCommand users) command_lines _ users name words command all (commands_make users)
    (λ taken. let step = mapped Take (step_in_line users name words) command taken in subst (CanSayCommand users) step.2 (step_within users name words step.0 all step.1))) is
