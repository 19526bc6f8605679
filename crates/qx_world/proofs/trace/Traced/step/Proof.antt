-- `step` lends the trace for the storing, hands it on for reading, and tells the newest outcome.
use Rattle.std.proofs.Common.{◌≡◌, ℕ, List, [], ◌∷◌, ◌++◌, refl, ◌∙◌, subst, MutBor}
use Rattle.std.proofs.raw_atomic.Walks.{proved_at, leaves}
use base.Fraction.{full_share}
use base.Logic.{SProp, id⊢, emp}
use base.Fml.{ftrue, flft}
use mir.Syntax.{named, Fn}
use mir.Val.{Val, vptr}
use prog.Wp.{WpFn}
use contract.Monad.{fact, fact_i}
use contract.Running.{tables}
use types.Kit.{‵, raw, ◌⊛◌, some, later, prop, ◌$◌, ◌∵◌, !, qed, by, move, keep, drop, use0, use1, use2, use3, split, join, fjoin, fsplit, pick, await, rewrite, regoal}
use types.Run.{enter, of_opd, addr, stop, no_more, and_then, returns}
use types.ByLocal.{alloc_all, pass_all, free_all, look_at, get, through, sets, lands_as}
use types.Tokens.{lft_new, lft_end}
use denote.Builtin.{unit, RefMutOf}
use denote.Exit.{yes, no}
use denote.Laws.{Is, Typed, shows}
use denote.Lend.{lends_again, comes_back, LentAgain}
use denote.RattleType.{RattleType}
use denote.Ref.{MutRef, mut_vals}
use denote.Signature.{plain}
use denote.Steps.{nothing, heard, peeks}
use denote.Triple.Call.{calls_at}
use denote.Triple.Clauses.{Lasts, lasts}
use denote.Signature.{type_at}
use denote.Param.Laws.{Laws, of_field}
use denote.Param.Shared.{copy_shared}
use denote.Struct.Field.{unit-field, shr_ref_field}
use denote.Struct.Laws.{unit-laws, unit-copy, shr_ref_laws, shr_ref_copy}
use mathlib.Core.Option.{none}
use Rattle.std.specs.Prelude.{◌<◌, ◌≢◌, is_ok, IsOk, IfOk, IfErr, OnOk, IsFalse, ⊤, Err}
use Rattle.std.proofs.result.Result.TheLaws.{the_row_laws as result_laws}
use Rattle.qx_types.specs.contracts.outcome.Outcome.{the_row as O}
use Rattle.qx_types.proofs.outcome.Outcome.TheLaws.{the_row_laws as outcome_laws}
use Rattle.qx_world.proofs.trace.Unstored.TheLaws.{the_row_laws as unstored_laws}
use Rattle.qx_world.specs.Lending.{Ends}
use Rattle.qx_world.specs.Trace.{Trace, IsAfter, IsLast, outcome_now, run_of}
use Rattle.qx_machine.specs.Wants.{wants_memory}
use Rattle.qx_world.specs.contracts.trace.Traced.rest as h
use Rattle.qx_world.proofs.trace.Traced.rest.Met.{met as rests}
use Rattle.qx_world.specs.contracts.trace.told as k
use Rattle.qx_world.proofs.trace.told.Met.{met as tells}
use denote.Triple.Spec.{triple_of}
use denote.Triple.Table.{framed}
use denote.Triple.Walked.{Stays, walk_of, stay_dropped, Goes-dropped}
use Rattle.std.specs.contracts.result.Result as result
use Rattle.qx_types.specs.contracts.step.Step.{the_row as S}
use Rattle.qx_types.proofs.step.Step.TheLaws.{the_row_laws as step_laws}
use Rattle.qx_world.specs.contracts.trace.Traced.{the_row as R}
use Rattle.qx_world.specs.contracts.trace.Unstored.{the_row as U}
use Rattle.qx_world.specs.contracts.trace.Traced.step as f
use Rattle.qx_world.proofs.trace.Traced.step.Statement.{statement}
use Rattle.qx_world.proofs.trace.Traced.step.Code as code
use Rattle.qx_world.specs.contracts.trace.Traced.store as g
use Rattle.qx_world.proofs.trace.Traced.store.Met.{met as stores}
use Rattle.qx_world.proofs.LoanLemmas.{so-weaker, stay_left, Goes-left, lone_val, is_lone, told-ready, told-after, told-outcome, told-back}

abbrev V : RattleType
V = result.the_row unit U

abbrev V_laws : Laws V
V_laws = result_laws unit U (of_field unit-field unit-laws refl (copy_shared unit-field unit-copy)) unstored_laws

abbrev out_laws : (κ : List ℕ) → Laws (result.the_row (shr_ref_field (record { mir = named 0; lft = κ }) O tt).row U)
out_laws κ =
    let F = shr_ref_field (record { mir = named 0; lft = κ }) O tt in
    result_laws F.row U (of_field F (shr_ref_laws (record { mir = named 0; lft = κ }) O tt) refl (copy_shared F (shr_ref_copy (record { mir = named 0; lft = κ }) O tt outcome_laws.shr_laws))) unstored_laws

abbrev stayed : Stays f.ended.signature.params f.ended.kept
stayed = (stay_dropped _ no, (stay_left _ yes, tt))

pub step_spec : {M : Type 1} → statement M
step_spec 𝓤 𝓛 𝓜 𝓡 wired =
    let c = f.clauses 𝓛 𝓜.mem 𝓡.returns in let 𝓣 = tables 𝓤 𝓛.H 𝓜 𝓡 𝓡.env in
    let fn : Fn = code.function in
    proved_at 𝓛 f.ended stayed c 𝓜 𝓡 (Goes-dropped 𝓛 1 (RefMutOf (0 ∷ []) tt (plain (λ _. R)) (λ _. tt)) no (λ κs x w. refl), (Goes-left 𝓛 1 (plain (λ _. S)) yes, tt))
    f.Key.name fn (code.unfolded 𝓤 𝓛.H 𝓜 𝓡 wired) (λ y are.
    let Post : Val → SProp 𝓤 = (walk_of 𝓛 f.ended stayed c).post y in
    let κ = y.0.0.0 in let q = y.0.1.0 in let a = y.0.3 in let vss = y.0.4 in
    let r = a.0 in let b = r.ref_ptr.0 in let o = r.ref_ptr.1 in let e = a.1.0 in
    let one = step_laws.single e vss.1.0 are.1.0 in let v = lone_val vss.1.0 one in
    let ref_is : vss.0 ≡ mut_vals r = are.0.0 in let step_is : vss.1.0 ≡ v ∷ [] = is_lone vss.1.0 one in
    let good = (subst (Typed S.mir) step_is ((step_laws.lawful 𝓛).typed e vss.1.0 are.1.0)).0 in
    let Ref = λ (κ' : List ℕ) (x : MutBor R.Denot). (MutRef (named 0) κ' R).own_val x (mut_vals r) in
    qed 𝓛 (((‵ (flft κ q) ⊛ ‵ ftrue) ⊛ ‵ ((MutRef (named 0) κ R).own_val r vss.0) ⊛ ‵ (S.own_val e vss.1.0) ⊛ ‵ ftrue) ∷ ‵ ftrue ∷ []) ∵
    split ! $ split ! $ move ! (2 ∷ []) $ split ! $ move ! (1 ∷ []) $ split ! $ keep ! (0 ∷ 2 ∷ 3 ∷ []) $
    -- [the step; self; the token of κ]
    rewrite ! 0 (λ (us : List Val). ‵ (S.own_val e us)) step_is refl $ rewrite ! 1 (λ (us : List Val). ‵ ((MutRef (named 0) κ R).own_val r us)) ref_is refl $
    regoal ! (λ (us : List Val). prop (WpFn 𝓤 𝓛.H 𝓣.C 𝓣.Λ fn us Post)) (λ i. ref_is i ++ (step_is i ++ [])) refl $
    enter ! 𝓣.C 𝓣.Λ fn (vptr b o ∷ v ∷ []) Post $
    alloc_all ! (λ l. pass_all ! refl ((tt, tt), (good, tt)) $
    sets ! (addr ! (through ! refl (stop !))) refl (tt, tt) $
    sets ! (of_opd ! (get ! refl)) refl good $
    lft_new ! tt (λ α. move ! (2 ∷ 3 ∷ []) $
    use2 𝓛 (later (some (λ (δ : ℕ). ‵ (Ref (α ∷ []) (record r { ghost_name = δ })) ⊛ ‵ (LentAgain R κ (α ∷ []) q r.ghost_name b o δ r.now))))
    (lends_again 𝓛 R (named 0) κ (α ∷ []) q r.ghost_name b o (named 0) r.now) $ await ! tt $ pick ! (λ δ. split ! $
    -- [the loan; what the lender keeps; the token of α; the step]
    let G₁ = triple_of 𝓛 g.signature (g.spec 𝓛 𝓜.mem 𝓡.returns) in
    let z₁ : G₁.Ghost = (((α ∷ [], tt), (full_share, tt), tt, (record r { ghost_name = δ }, (e, tt)), (mut_vals r, (v ∷ [], tt))), tt) in
    nothing ! $ move ! (4 ∷ 0 ∷ []) $ join ! $ move ! (1 ∷ 0 ∷ []) $ join ! $ nothing ! $ move ! (3 ∷ 0 ∷ []) $ join ! $ join ! $
    nothing ! $ move ! (1 ∷ 0 ∷ []) $ use2 𝓛 (raw (G₁.pre z₁)) (id⊢ 𝓤 _) $
    calls_at ! (framed 𝓤 𝓛.H 𝓜 𝓣) G₁ (stores 𝓤 𝓛 𝓜 𝓡 (code.calls-qx_world::trace::Traced::store 𝓡.env wired)) z₁
    (and_then ! (get ! refl) (and_then ! (get ! refl) (no_more !))) (λ v₁.
    use1 𝓛 (later (some (λ (x : V.Denot). ((‵ (flft (α ∷ []) full_share) ⊛ ‵ ftrue) ⊛ ‵ (V.own_val x (v₁ ∷ []))) ⊛
    some (λ (ws : Lasts g.ended z₁.0.0 z₁.0.3). ‵ (lasts g.ended z₁.0.0 z₁.0.3 ws) ⊛ (raw (fact 𝓤 (IsAfter r.now e (is_ok x) ws.0)) ⊛ (raw (fact 𝓤 (IfErr x (λ unstored. unstored.step ≡ e))) ⊛ raw (fact 𝓤 (0 < r.now.room → IsFalse (wants_memory (run_of r.now).world e) → IsOk x)))))))) (id⊢ 𝓤 _) $
    await ! tt $ pick ! (λ x. split ! $ split ! $ split ! $ lft_end ! tt $ move ! (2 ∷ []) $
    peeks ! V (Is V) (shows 𝓛 V) x (v₁ ∷ []) (λ is₁. let good₁ = ((V_laws.lawful 𝓛).typed x (v₁ ∷ []) is₁).0 in
    lands_as ! refl refl good₁ $
    -- [the result's memory; α is over; nothing; what `store` ensures; what the lender keeps]
    move ! (3 ∷ []) $ pick ! (λ ws. split ! $ move ! (1 ∷ []) $ split ! $ heard ! _ (λ after. split ! $ heard ! _ (λ back. heard ! _ (λ sure.
    fsplit ! $ fsplit ! $ move ! (2 ∷ []) $ fsplit ! $
    -- [the step's end; nothing; the loan's last value; its borrow; the result's memory; α is over; nothing; what the lender keeps]
    move ! (5 ∷ 7 ∷ 2 ∷ []) $ use3 𝓛 (later (‵ (Ref κ (record r { now = ws.0 })) ⊛ ‵ (flft κ q)))
    (comes_back 𝓛 R (named 0) κ (α ∷ []) q r.ghost_name b o δ r.now ws.0) $ await ! tt $ split ! $
    -- [self; the token of κ; the step's end; nothing; the result's memory; nothing]
    sets ! (addr ! (through ! refl (stop !))) refl (tt, tt) $
    let G₂ = triple_of 𝓛 h.signature (h.spec 𝓛 𝓜.mem 𝓡.returns) in
    let z₂ : G₂.Ghost = ((y.0.0, y.0.1, tt, (record r { now = ws.0 }, tt), (mut_vals r, tt)), tt) in
    nothing ! $ move ! (1 ∷ 0 ∷ []) $ join ! $ nothing ! $ move ! (2 ∷ 0 ∷ []) $ join ! $ join ! $
    nothing ! $ move ! (1 ∷ 0 ∷ []) $ use2 𝓛 (raw (G₂.pre z₂)) (id⊢ 𝓤 _) $
    calls_at ! (framed 𝓤 𝓛.H 𝓜 𝓣) G₂ (rests 𝓤 𝓛 𝓜 𝓡 (code.calls-qx_world::trace::Traced::rest 𝓡.env wired)) z₂
    (and_then ! (get ! refl) (no_more !)) (λ v₂.
    let Shr = type_at h.signature.result y.0.0 in
    use1 𝓛 (later (some (λ (run : Shr.Denot). ((‵ (flft κ q) ⊛ ‵ ftrue) ⊛ ‵ (Shr.own_val run (v₂ ∷ []))) ⊛
    some (λ (ws₂ : Lasts h.ended z₂.0.0 z₂.0.3). ‵ (lasts h.ended z₂.0.0 z₂.0.3 ws₂) ⊛ (‵ (Ends r (λ trace. trace ≡ ws.0)) ⊛ raw (fact 𝓤 (run.now ≡ ws.0))))))) (id⊢ 𝓤 _) $
    await ! tt $ pick ! (λ run. split ! $ split ! $ split ! $ move ! (2 ∷ []) $
    peeks ! Shr (Is Shr) (shows 𝓛 Shr) run (v₂ ∷ []) (λ is₂.
    lands_as ! refl refl ((((shr_ref_laws (record { mir = named 0; lft = κ }) R tt).lawful 𝓛).typed run (v₂ ∷ []) is₂).0) $
    -- [the shared loan; the token of κ; nothing; what `rest` ensures; the step's end; nothing; the result's memory; nothing]
    move ! (3 ∷ []) $ pick ! (λ ws₂. split ! $ drop ! $ split ! $ move ! (1 ∷ []) $ heard ! _ (λ same.
    sets ! (of_opd ! (get ! refl)) refl good₁ $
    -- [what the trace ends as; the shared loan; the token of κ; nothing; the step's end; nothing; the borrow; the result's memory; nothing]
    let G₃ = triple_of 𝓛 k.signature (k.spec 𝓛 𝓜.mem 𝓡.returns) in
    let z₃ : G₃.Ghost = ((y.0.0, y.0.1, tt, (x, (run, tt)), (v₁ ∷ [], (v₂ ∷ [], tt))), tt) in
    let Ready : Type 0 = OnOk x (run.now.steps ≢ []) in
    let ready : Ready = rw same (told-ready r.now ws.0 e x after) in
    nothing ! $ move ! (2 ∷ 0 ∷ []) $ join ! $ move ! (7 ∷ 0 ∷ []) $ join ! $ nothing ! $ move ! (3 ∷ 0 ∷ []) $ join ! $ join ! $
    use0 𝓛 (raw (fact 𝓤 Ready)) (fact_i 𝓤 Ready (emp 𝓤) ready) $ move ! (1 ∷ 0 ∷ []) $ use2 𝓛 (raw (G₃.pre z₃)) (id⊢ 𝓤 _) $
    calls_at ! (framed 𝓤 𝓛.H 𝓜 𝓣) G₃ (tells 𝓤 𝓛 𝓜 𝓡 (code.calls-qx_world::trace::told 𝓡.env wired)) z₃
    (and_then ! (get ! refl) (and_then ! (get ! refl) (no_more !))) (λ v₃.
    let Out = type_at f.signature.result y.0.0 in
    use1 𝓛 (later (some (λ (given : Out.Denot). ((‵ (flft κ q) ⊛ ‵ ftrue) ⊛ ‵ (Out.own_val given (v₃ ∷ []))) ⊛
    some (λ (ws₃ : Lasts k.ended z₃.0.0 z₃.0.3). ‵ (lasts k.ended z₃.0.0 z₃.0.3 ws₃) ⊛ (raw (fact 𝓤 (is_ok given ≡ is_ok x)) ⊛ (raw (fact 𝓤 (IfOk given (λ outcome. IsLast run.now outcome.now))) ⊛ raw (fact 𝓤 (IfErr given (λ unstored. x ≡ Err unstored))))))))) (id⊢ 𝓤 _) $
    await ! tt $ pick ! (λ given. split ! $ split ! $ split ! $ move ! (2 ∷ []) $
    peeks ! Out (Is Out) (shows 𝓛 Out) given (v₃ ∷ []) (λ is₃.
    lands_as ! refl refl ((((out_laws κ).lawful 𝓛).typed given (v₃ ∷ []) is₃).0) $
    -- [the result; the token of κ; nothing; what `told` ensures; what the trace ends as; nothing; the step's end; ..]
    move ! (3 ∷ []) $ pick ! (λ ws₃. split ! $ drop ! $ split ! $ heard ! _ (λ kind. split ! $ heard ! _ (λ last. heard ! _ (λ returned.
    returns ! (look_at ! 0 refl) $ free_all ! refl $ keep ! (3 ∷ 0 ∷ 1 ∷ 5 ∷ []) $
    -- [what the trace ends as; the result; the token of κ; the step's end]
    let After : Trace → Type 0 = IsAfter r.now e (is_ok given) in
    let Given : Type 0 = IfOk given (λ outcome. outcome.now ≡ outcome_now r.now e) in
    let Back : Type 0 = IfErr given (λ unstored. unstored.step ≡ e) in
    let Sure : Type 0 = 0 < r.now.room → IsFalse (wants_memory (run_of r.now).world e) → IsOk given in
    use1 𝓛 (‵ (Ends r After)) (so-weaker 𝓛 R R r.ghost_name none (λ _ _. ⊤) (λ trace. trace ≡ ws.0) After (λ trace ends. told-after r.now ws.0 trace e x given after kind ends)) $
    use0 𝓛 (raw (fact 𝓤 Sure)) (fact_i 𝓤 Sure (emp 𝓤) (λ room free. kind ∙ sure room free)) $
    use0 𝓛 (raw (fact 𝓤 Back)) (fact_i 𝓤 Back (emp 𝓤) (told-back e x given back returned)) $ join ! $
    use0 𝓛 (raw (fact 𝓤 Given)) (fact_i 𝓤 Given (emp 𝓤) (told-outcome r.now ws.0 run.now e x given after kind same last)) $ join ! $
    move ! (1 ∷ 0 ∷ []) $ join ! $ nothing ! $ move ! (4 ∷ 0 ∷ []) $ fjoin ! $ nothing ! $ fjoin ! $ nothing ! $ move ! (4 ∷ 0 ∷ []) $ fjoin ! $ keep ! (0 ∷ 1 ∷ 3 ∷ 2 ∷ []) $
    by ! (leaves 𝓛 f.ended stayed c y v₃ given (tt, (ws.1.0, tt)) (tt, (tt, tt))))))))))))))))))))))))))
