-- What clap's clauses say of the command `qnxsh`.
use Rattle.std.proofs.Common.{◌≡◌, ◌∙◌, ap, refl, subst, true, codes, List, [], inl, inr}
use Rattle.clap.specs.Faults.{fault_of, is_simple_and_free}
use Rattle.clap.specs.Kinds.{HasKind, IsAmong, Kinds}
use Rattle.clap.specs.Matches.{first_value, found_of}
use Rattle.clap.specs.Simple.{App, HasMatchesOf, is_simple}
use Rattle.clap.specs.Values.{kind_of}
use Rattle.clap.specs.Walk.{Text, first_of}
use Rattle.clap.specs.declared.error.Error.{Error}
use Rattle.clap.specs.declared.error.kind.ErrorKind.TheVariants.{OutOfMemory}
use Rattle.clap.specs.declared.parser.matches.ArgMatches.{ArgMatches}
use Rattle.clap.proofs.OnLiterals.{clap_on_literals}
use Rattle.clap.proofs.WalkLemmas.{first_value-rows}
use Rattle.qx_sh.specs.Options.{limit_text, qnxsh_command, refusal}

is_free_here : is_simple_and_free qnxsh_command ≡ true
unfolding clap_on_literals
is_free_here = refl

is_simple_here : is_simple qnxsh_command ≡ true
unfolding clap_on_literals
is_simple_here = refl

-- what holds of the kinds of error at the words holds of their refusal
pub of_refusal : (P : Kinds → Type 0) (a : App) (words : List Text) → a ≡ qnxsh_command
    → (is_simple_and_free a ≡ true → P (fault_of a words)) → P (refusal words)
unfolding refusal
of_refusal P a words same holds =
    subst (λ (b : App). is_simple_and_free b ≡ true → P (fault_of b words)) same holds is_free_here

-- the first value of `limit` in the matches is the limit's text
pub holds_limit_text : (a : App) (words : List Text) (m : ArgMatches) → a ≡ qnxsh_command → HasMatchesOf a words m
    → first_value (found_of m) (codes "limit") ≡ limit_text words
unfolding limit_text
holds_limit_text a words m same has =
    first_value-rows (found_of m) (codes "limit")
    ∙ ap (first_of (codes "limit")) (subst (λ (b : App). HasMatchesOf b words m) same has is_simple_here).0

-- an error for another cause than memory is among the kinds
pub among_kinds : (kinds : Kinds) (e : Error) → HasKind kinds e → (kind_of e ≡ OutOfMemory → ⊥) → kinds ≡ [] → ⊥
among_kinds kinds e (inl memory) other none = other memory
among_kinds kinds e (inr among) other none = subst (IsAmong (kind_of e)) none among
