use Rattle.std.proofs.Common.{◌++◌, codes, decimal}
use Rattle.std.proofs.KnownBytes.{Appends-trans}
use Rattle.qx_sh.specs.Watched.{held}
use Rattle.qx_sh.proofs.Written.{on_err, front_first, front_second, front_last, whole_second}
use Rattle.qx_sh.proofs.ending.write_line.Goals as goal

pub returns-in_err-write_out-clause-front : goal.returns-in_err-write_out-clause-front
returns-in_err-write_out-clause-front g c = on_err _ _ (front_first _ _ (codes "qnxsh: line ") (decimal c.args.line ++ codes "\n") c.in_err-write_out.ensures.front)

pub returns-in_err-write_number-clause-front : goal.returns-in_err-write_number-clause-front
returns-in_err-write_number-clause-front g c =
    on_err _ _ (front_second _ _ _ (codes "qnxsh: line ") (decimal c.args.line ++ codes "\n") c.in_ok-write_out.ensures.whole (front_first _ _ (decimal c.args.line) (codes "\n") c.in_err-write_number.ensures.front))

pub returns-clause-whole : goal.returns-clause-whole
returns-clause-whole g c =
    whole_second c.write_out-2.result _ (held g.W.Sink.contents c.write_number.new.writer) (held g.W.Sink.contents c.write_out-2.new.writer) (codes "qnxsh: line " ++ decimal c.args.line) (codes "\n")
    (Appends-trans _ _ _ (codes "qnxsh: line ") (decimal c.args.line) c.in_ok-write_out.ensures.whole c.in_ok-write_number.ensures.whole) c.write_out-2.ensures.whole

pub returns-clause-front : goal.returns-clause-front
returns-clause-front g c =
    front_last c.write_out-2.result _ (held g.W.Sink.contents c.write_number.new.writer) (held g.W.Sink.contents c.write_out-2.new.writer) (codes "qnxsh: line " ++ decimal c.args.line) (codes "\n")
    (Appends-trans _ _ _ (codes "qnxsh: line ") (decimal c.args.line) c.in_ok-write_out.ensures.whole c.in_ok-write_number.ensures.whole) c.write_out-2.ensures.front
