-- Runs, one step longer: what is stored, and what of it is a user's.
use Rattle.std.proofs.Common.{◌≡◌, ℕ, ◌+◌, ◌<◌, zero, suc, Bool, true, false, List, [], ◌∷◌, ◌++◌, length, take, get_or, Option, None, refl, sym, ap, ◌∙◌, arith, add-one, append_assoc}
use Rattle.std.proofs.lemmas.Grind.{common_steps}
use Rattle.std.specs.Prelude.{option_map, if◌then◌else◌}
use Rattle.std.proofs.lemmas.Bool.{cond_both}
use Rattle.std.proofs.lemmas.List.{map-append, length-map, get_or-map, take_more}
use Rattle.qx_types.specs.Configuration.{Configuration}
use Rattle.qx_types.specs.Step.{actor_of}
use Rattle.qx_types.specs.declared.names.User.{User}
use Rattle.qx_types.specs.declared.step.Step.{Step}
use Rattle.qx_isolation.specs.declared.rows.Entry.{Entry}
use Rattle.qx_isolation.specs.declared.rows.Seen.{Seen}
use Rattle.qx_machine.specs.Machine.{World, boot, step, owner}
use Rattle.qx_machine.specs.Runs.{run, world_after, entries_from, seen_by, received, is_owner, erase_from}
use Rattle.qx_machine.proofs.Runs.{boot-config, step-config, world_after-append}
use Rattle.qx_world.specs.Trace.{owners_from}
use Rattle.qx_world.specs.inner.Trace.{IsRun, steps_of}

-- one step more

entries_from-append : (w : World) (steps : List Step) (e : Step) → entries_from w (steps ++ e ∷ []) ≡ entries_from w steps ++ record { step = e; outcome = (step (world_after w steps) e).outcome } ∷ []
entries_from-append w [] e = refl
entries_from-append w (first ∷ steps) e = ap (λ entries. record { step = first; outcome = (step w first).outcome } ∷ entries) (entries_from-append (step w first).world steps e)

owners_from-append : (w : World) (steps : List Step) (e : Step) → owners_from w (steps ++ e ∷ []) ≡ owners_from w steps ++ owner (world_after w steps) e ∷ []
owners_from-append w [] e = refl
owners_from-append w (first ∷ steps) e = ap (λ owners. owner w first ∷ owners) (owners_from-append (step w first).world steps e)

-- a world at boot is the run of no steps
pub is_run-boot : (world : World) (config : Configuration) → world ≡ boot config → IsRun world [] []
is_run-boot world config is =
    let same : world.config ≡ config = ap (λ w. w.config) is ∙ boot-config config in
    record { same_world = is ∙ ap boot (sym same); same_entries = refl; same_owners = refl }

-- a step that is taken and stored makes the run of one step more
pub is_run-stored : (world : World) (entries : List Entry) (owners : List (Option User)) (e : Step) (user : Option User) → IsRun world entries owners → option_map (λ user. user.0) user ≡ owner world e → IsRun (step world e).world (entries ++ record { step = e; outcome = (step world e).outcome } ∷ []) (owners ++ user ∷ [])
is_run-stored world entries owners e user run is = record {
  same_world = rw (step-config world e, map-append (λ entry. entry.step) entries (record { step = e; outcome = (step world e).outcome } ∷ []), world_after-append (boot world.config) (steps_of entries) e) (ap (λ w. (step w e).world) run.same_world);
  same_entries = rw (step-config world e, map-append (λ entry. entry.step) entries (record { step = e; outcome = (step world e).outcome } ∷ []), entries_from-append (boot world.config) (steps_of entries) e) (λ i. run.same_entries i ++ record { step = e; outcome = (step (run.same_world i) e).outcome } ∷ []);
  same_owners = rw (step-config world e, map-append (λ entry. entry.step) entries (record { step = e; outcome = (step world e).outcome } ∷ []), owners_from-append (boot world.config) (steps_of entries) e, map-append (option_map (λ user. user.0)) owners (user ∷ []), is) (λ i. run.same_owners i ++ owner (run.same_world i) e ∷ []);
}

-- what was stored last
pub is_run-last : (world : World) (entries : List Entry) (owners : List (Option User)) (earlier : List Step) (e : Step) → IsRun world entries owners → steps_of entries ≡ earlier ++ e ∷ [] → entries ≡ entries_from (boot world.config) earlier ++ record { step = e; outcome = (step (world_after (boot world.config) earlier) e).outcome } ∷ []
is_run-last world entries owners earlier e run is = run.same_entries ∙ ap (entries_from (boot world.config)) is ∙ entries_from-append (boot world.config) earlier e

-- there is an owner for each entry
owners_from-length : (w : World) (steps : List Step) → length (owners_from w steps) ≡ length steps
owners_from-length w [] = refl
owners_from-length w (e ∷ steps) = ap suc (owners_from-length (step w e).world steps)

pub is_run-length : (world : World) (entries : List Entry) (owners : List (Option User)) → IsRun world entries owners → length owners ≡ length entries
is_run-length world entries owners run =
    sym (length-map owners (option_map (λ user. user.0))) ∙ ap length run.same_owners ∙ owners_from-length (boot world.config) (steps_of entries) ∙ length-map entries (λ entry. entry.step)

-- the owner that stands beside an entry
pub is_run-owner : (world : World) (entries : List Entry) (owners : List (Option User)) (n : ℕ) → IsRun world entries owners → n < length entries → option_map (λ user. user.0) (get_or owners n None) ≡ get_or (owners_from (boot world.config) (steps_of entries)) n None
is_run-owner world entries owners n run lt =
    let here : n < length owners = rw (is_run-length world entries owners run) lt in
    sym (get_or-map (option_map (λ user. user.0)) owners n None None here) ∙ ap (λ owners. get_or owners n None) run.same_owners

-- what a user received of some entries and of one more
pub received-append : (user : ℕ) (entries : List Entry) (entry : Entry) → received user (entries ++ entry ∷ []) ≡ received user entries ++ seen_by user entry.outcome (actor_of entry.step)
received-append user [] entry = grind (arith, common_steps)
received-append user (first ∷ entries) entry = rw (received-append user entries entry) (sym (append_assoc (seen_by user first.outcome (actor_of first.step)) (received user entries) (seen_by user entry.outcome (actor_of entry.step))))

pub received-next : (user : ℕ) (entries : List Entry) (n : ℕ) (entry : Entry) (seen : List Seen) → n < length entries → entry ≡ get_or entries n entry → seen ≡ seen_by user entry.outcome (actor_of entry.step) → received user (take n entries) ++ seen ≡ received user (take (n + 1) entries)
received-next user entries n entry seen lt read is = rw (take_more entries n entry lt, ← read, received-append user (take n entries) entry, is)

-- the steps of a user among the first ones, and whether the next one is too
erased_by : (user : ℕ) (w : World) (steps : List Step) (n : ℕ) (e : Step) → n < length steps → erase_from user w (take (suc n) steps) ≡ (if is_owner user (get_or (owners_from w steps) n None) then erase_from user w (take n steps) ++ get_or steps n e ∷ [] else erase_from user w (take n steps))
erased_by user w [] n e lt = absurd (omega arith)
erased_by user w (first ∷ steps) zero e lt = refl
erased_by user w (first ∷ steps) (suc n) e lt =
    let next = (step w first).world in
    let later = erased_by user next steps n e (omega arith) in
    cond_both (is_owner user (get_or (owners_from next steps) n None)) (erase_from user w (take (suc n) (first ∷ steps)) ++ get_or steps n e ∷ []) (erase_from user w (take (suc n) (first ∷ steps))) (λ l. erase_from user w (take (suc (suc n)) (first ∷ steps)) ≡ l)
    (λ own. kept_first (is_owner user (owner w first)) first (erase_from user next (take (suc n) steps)) (erase_from user next (take n steps)) (get_or steps n e) (rw own at later))
    (λ other. ap (λ l. if is_owner user (owner w first) then first ∷ l else l) (rw other at later))
  where
    kept_first : (own : Bool) (first : Step) (all some : List Step) (e : Step) → all ≡ some ++ e ∷ [] → (if own then first ∷ all else all) ≡ (if own then first ∷ some else some) ++ e ∷ []
    kept_first true first all some e is = ap (λ l. first ∷ l) is
    kept_first false first all some e is = is

pub erased-kept : (user : ℕ) (w : World) (entries : List Entry) (n : ℕ) (entry : Entry) → n < length entries → entry ≡ get_or entries n entry → is_owner user (get_or (owners_from w (steps_of entries)) n None) ≡ true → erase_from user w (take n (steps_of entries)) ++ entry.step ∷ [] ≡ erase_from user w (take (n + 1) (steps_of entries))
erased-kept user w entries n entry lt read own =
    let here : n < length (steps_of entries) = rw (length-map entries (λ entry. entry.step)) lt in
    rw (add-one n, erased_by user w (steps_of entries) n entry.step here, own, get_or-map (λ entry. entry.step) entries n entry entry.step lt, ← read)

pub erased-left : (user : ℕ) (w : World) (entries : List Entry) (n : ℕ) (entry : Entry) → n < length entries → entry ≡ get_or entries n entry → is_owner user (get_or (owners_from w (steps_of entries)) n None) ≡ false → erase_from user w (take n (steps_of entries)) ≡ erase_from user w (take (n + 1) (steps_of entries))
erased-left user w entries n entry lt read other =
    let here : n < length (steps_of entries) = rw (length-map entries (λ entry. entry.step)) lt in
    rw (add-one n, erased_by user w (steps_of entries) n entry.step here, other)
