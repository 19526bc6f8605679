use Rattle.std.proofs.Common.{rules, ◌≡◌, ℕ, ◌+◌, ◌<◌, List, [], ◌∷◌, ◌++◌, None, Some, length, take, ap, arith, sym, ◌∙◌, zero, suc, add-zero, add-one}
use Rattle.qx_types.specs.Configuration.{Configuration}
use Rattle.qx_machine.specs.Users.{boot_part}
use Rattle.qx_resources.specs.Boot.{boot_resources, kept_of}
use Rattle.qx_resources.specs.State.{Kept}
use Rattle.qx_resources.proofs.all.AllResources.boot.Goals as goal

-- the resources of one more user at boot
take_suc : (config : Configuration) (user n : ℕ) (names : List (List ℕ)) → n < length names → boot_resources config user (take (suc n) names) ≡ boot_resources config user (take n names) ++ Some (kept_of (boot_part config (user + n)).resources) ∷ []
take_suc config user n [] lt = absurd (omega arith)
take_suc config user zero (name ∷ names) lt = rw (add-zero user)
take_suc config user (suc n) (name ∷ names) lt =
    let place : user + 1 + n ≡ user + suc n = omega arith in
    ap (λ rows. Some (kept_of (boot_part config user).resources) ∷ rows) (take_suc config (user + 1) n names (omega arith) ∙ ap (λ number. boot_resources config (user + 1) (take n names) ++ Some (kept_of (boot_part config number).resources) ∷ []) place)

pub loop-number-preserved : goal.loop-number-preserved
loop-number-preserved c =
    let config = c.args.config.now in
    let number = c.loop-number.number in
    let there : number < length config.users = search rules in
    let one : number + 1 ≡ 1 + number = omega arith in
    let row : c.in_ok-boot.field-0 ≡ kept_of (boot_part config (1 + number)).resources = c.in_ok-boot.ensures ∙ ap (λ user. kept_of (boot_part config user).resources) one in
    c.in_ok-push.ensures.items ∙ ap (λ rows. rows ++ Some c.in_ok-boot.field-0 ∷ []) c.loop-number.invariant
    ∙ ap (λ (all : Kept). None ∷ boot_resources config 1 (take number config.users) ++ Some all ∷ []) row ∙ ap (λ rows. None ∷ rows) (sym (rw (add-one number) (take_suc config 1 number config.users there)))
