use Rattle.std.proofs.Common.{add-one, sym, ap, ◌∙◌, arith, drop}
use Rattle.std.specs.List.{find}
use Rattle.std.specs.Str.{bytes_eq}
use Rattle.qx_devices.specs.Devices.{device_named, device_word, devices}
use Rattle.qx_devices.specs.declared.Device.{Device}
use Rattle.qx_devices.proofs.Found.{found_at, none_past, passed_over}
use Rattle.qx_devices.proofs.Listed.{devices_at, none_of}
use Rattle.qx_devices.proofs.Device.of_word.Goals as goal

pub returns-in_err-device : goal.returns-in_err-device
unfolding device_named
returns-in_err-device c = c.from_residual.ensures ∙ sym (c.loop-number.invariant ∙ none_past (λ device. bytes_eq c.args.word.now (device_word device)) devices c.loop-number.number (sym c.of_number.ensures ∙ c.in_err-device.was))

pub returns-then-eq : goal.returns-then-eq
unfolding device_named
returns-then-eq c =
    let same = sym (c.if-eq.ensures ∙ ap (bytes_eq c.args.word.now) c.word.ensures) in
    sym (c.loop-number.invariant ∙ found_at (λ device. bytes_eq c.args.word.now (device_word device)) devices c.loop-number.number c.in_ok-device.device (sym c.of_number.ensures ∙ c.in_ok-device.was) same)

pub loop-number-preserved : goal.loop-number-preserved
loop-number-preserved c =
    let p = λ (device : Device). bytes_eq c.args.word.now (device_word device) in
    let differs = sym (c.if-eq.ensures ∙ ap (bytes_eq c.args.word.now) c.word.ensures) in
    c.loop-number.invariant ∙ passed_over p devices c.loop-number.number c.in_ok-device.device (sym c.of_number.ensures ∙ c.in_ok-device.was) differs ∙ ap (λ n. find p (drop n devices)) (sym (add-one c.loop-number.number))

pub returns : goal.returns
unfolding device_named
returns c = sym (c.loop-number.invariant ∙ none_past (λ device. bytes_eq c.args.word.now (device_word device)) devices c.loop-number.number (devices_at c.loop-number.number ∙ none_of c.loop-number.number (omega (arith, c.loop-number-test.false, c.count-number-end.ensures.count))))
