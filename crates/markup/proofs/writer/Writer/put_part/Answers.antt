use Rattle.markup.proofs.WrittenLemmas.{part_kept}
use Rattle.markup.proofs.writer.Writer.put_part.Goals as goal

pub invariant_of-self : goal.invariant_of-self
invariant_of-self c = record {
  read = part_kept c.within.new.self.text.items c.bytes.result.now c.add_bytes.new.text.items
      c.within.new.self.stack.items c.within.new.self.spot c.within.new.self.fault c.add_bytes.new.fault
      c.add_bytes.ensures.before c.within.new.self.read c.within.ensures.spot c.add_bytes.ensures.added
      c.bytes.ensures.whole;
}
