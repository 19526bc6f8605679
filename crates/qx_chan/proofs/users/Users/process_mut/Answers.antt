use Rattle.std.proofs.Common.{◌≡◌, ◌∙◌, ap, inl, inr, refl, sym, Some, None}
use Rattle.std.specs.Option.{option_copied_mut}
use Rattle.qx_isolation.specs.Rows.{row_at}
use Rattle.qx_rows.proofs.RowLemmas.{set-row}
use Rattle.qx_chan.proofs.RowReads.{option_cases}
use Rattle.qx_chan.proofs.users.Users.process_mut.Goals as goal

pub returns : goal.returns
returns c =
    let rows = c.in_ok-processes_mut.field-0.now in
    let there : row_at c.args.self.now c.args.proc.user.0 ≡ Some rows = sym c.in_ok-processes_mut.ensures.row in
    elim (option_cases c.process_mut.result) [
      | inl none ↦
          let inner : row_at rows c.args.proc.num ≡ None = sym c.process_mut.ensures.row ∙ ap option_copied_mut none in
          rw (none, set-row c.args.self.now c.args.proc.user.0 rows there, there) (refl, record { writes_back = tt; row = sym inner })
      | inr some ↦
          let inner : row_at rows c.args.proc.num ≡ Some some.0.now = sym c.process_mut.ensures.row ∙ ap option_copied_mut some.1 in
          rw (some.1, there, inner) (refl, record { writes_back = tt; row = refl })
    ]
