use Rattle.std.proofs.Common.{◌≡◌, ◌∙◌, ap, inl, inr, refl, sym, Some, None}
use Rattle.std.specs.Option.{option_copied_mut}
use Rattle.qx_machine.specs.Parts.{thread_of}
use Rattle.qx_isolation.specs.Rows.{row_at}
use Rattle.qx_rows.proofs.RowLemmas.{set-row}
use Rattle.qx_chan.proofs.RowReads.{option_cases}
use Rattle.qx_chan.proofs.users.Users.thread_mut.Goals as goal

pub returns : goal.returns
returns c =
    let rows = c.in_ok-processes_mut.field-0.now in
    let there : row_at c.args.self.now c.args.thread.proc.user.0 ≡ Some rows = sym c.in_ok-processes_mut.ensures.row in
    elim (option_cases c.thread_mut.result) [
      | inl none ↦
          let inner : thread_of c.args.thread.tid (row_at rows c.args.thread.proc.num) ≡ None = sym c.thread_mut.ensures.row ∙ ap option_copied_mut none in
          rw (none, set-row c.args.self.now c.args.thread.proc.user.0 rows there, there) (refl, record { writes_back = tt; row = sym inner })
      | inr some ↦
          let inner : thread_of c.args.thread.tid (row_at rows c.args.thread.proc.num) ≡ Some some.0.now = sym c.thread_mut.ensures.row ∙ ap option_copied_mut some.1 in
          elim (option_cases (row_at rows c.args.thread.proc.num)) [
            | inl nobody ↦ let clash : None ≡ Some some.0.now = rw nobody at inner in absurd (cc)
            | inr process ↦
                let row : row_at process.0.threads c.args.thread.tid ≡ Some some.0.now = rw process.1 at inner in
                rw (some.1, there, process.1, row) (refl, record { writes_back = tt; row = refl })
          ]
    ]
