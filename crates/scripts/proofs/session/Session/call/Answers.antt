use Rattle.scripts.proofs.Asking.{straying_asked}
use Rattle.scripts.proofs.session.Session.call.Goals as goal

pub returns : goal.returns
returns c =
    let s = c.args.self.now in
    let w = c.new.result in
    straying_asked s.kind s.measure w.coder.now w.measure.now c.new.ensures.0 c.new.ensures.1 s c.args.call _ _ c.ask.ensures
