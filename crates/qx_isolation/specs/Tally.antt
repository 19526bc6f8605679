-- A system whose rows of a user are one number: how many steps the user's processes took and how many of the user's items were done.
use Rattle.std.specs.Prelude.{ℕ, ◌+◌, [], ◌∷◌}
use Rattle.qx_types.specs.declared.names.Manager.TheVariants.{Ram}
use Rattle.qx_types.specs.declared.outcome.Outcome.TheVariants.{Reply}
use Rattle.qx_isolation.specs.declared.rows.OwnItem.TheVariants.{Message}
use Rattle.qx_isolation.specs.System.{Behaviour, ClientStep, Put, Served}

-- a client's step is told the number, and puts a message into a line
abbrev pub counted : ℕ → ClientStep ℕ
counted count = record { outcome = Reply count []; part = count + 1; changes = Put Ram (Message 1 1) 10 ∷ [] }

abbrev pub done : ℕ → Served ℕ
done count = record { part = count + 1; changes = [] }

abbrev pub tally : Behaviour ℕ
tally = record {
  boot = λ config user. 0;
  client = λ config user held count e. counted count;
  take = λ count item. count;
  serve = λ config user held count item moment. done count;
  settle = λ before held after. after;
}
