use Rattle.{event_log.specs.Sections.{block_after, sections_in}, layer_traits.proofs.Alone.{three_polls, answer_there, block_there}}
use Rattle.layer_traits.specs.Polling.Plans.{table_of}
use Rattle.spinlock.proofs.sections.whole.Goals as goal

pub unwrap-requires : goal.unwrap-requires
unwrap-requires g c =
    let L = g.L.Layer in
    let protocol = g.E.SplitEdit.protocol in
    let m = c.args.m.now in
    let part = c.args.part.now in
    let one = c.alone-drawn in
    let two = c.alone-looked in
    let three = c.alone in
    let cpu = L.cpu_of part in
    let did = three_polls (table_of protocol) c.args.lock c.args.edit (L.opening m) (L.opening one.new.m) (L.opening two.new.m) cpu (L.cpu_of one.new.part)
    (L.cpu_of two.new.part)
    (L.acts m) (L.acts one.new.m) (L.acts two.new.m) (L.acts three.new.m) three.result c.requires.rests
    (g.met.L.Layer.legal m cpu (g.met.L.Layer.own_cpu part m c.requires.coupled))
    one.ensures.cpu two.ensures.cpu one.ensures.opening two.ensures.opening one.ensures.acts two.ensures.acts three.ensures.acts three.ensures.answer in
    rw did.answers (answer_there (protocol.answer c.args.edit) (block_after protocol.edited (L.opening m) c.args.lock (sections_in (L.acts m)))
    (block_there protocol.edited (L.opening m) c.args.lock (sections_in (L.acts m)) c.requires.lock))
