-- The devices that are listed, a row for each, with its word and its own definitions. What stands above names rows and their
-- number, and not the list, so a further row changes nothing there.
use Rattle.std.specs.Prelude.{List, [], ◌∷◌, codes}
use Rattle.qx_devices.specs.Latch as latch
use Rattle.qx_devices.specs.Mailbox as mailbox
use Rattle.qx_devices.specs.Pump as pump
use Rattle.qx_devices.specs.Row.{Row}

-- in the order of their numbers, from 0
unfoldable pub listed : List Row
listed =
    record { word = codes "latch"; read = latch.read_verdict; write = latch.write_verdict; has_input = latch.has_input; has_output = latch.has_output }
    ∷ record { word = codes "mailbox"; read = mailbox.read_verdict; write = mailbox.write_verdict; has_input = mailbox.has_input; has_output = mailbox.has_output }
    ∷ record { word = codes "pump"; read = pump.read_verdict; write = pump.write_verdict; has_input = pump.has_input; has_output = pump.has_output }
    ∷ []
