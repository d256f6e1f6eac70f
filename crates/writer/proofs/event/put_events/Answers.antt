-- Line by line.
use lib.Seq.{take_all}
use Rattle.line.specs.Texts.{written_text}
use Rattle.cycle_text.specs.Written.{event_fields, events_text}
use Rattle.buffer.proofs.Puts.{put_none}
use Rattle.buffer.proofs.Lines.{put_more}
use Rattle.writer.proofs.event.put_events.Goals as goal

pub loop-event-init : goal.loop-event-init
unfolding events_text written_text
loop-event-init c = put_none _

pub loop-event-preserved : goal.loop-event-preserved
unfolding events_text
loop-event-preserved c =
    put_more event_fields _ c.loop-event.event-index _ c.loop-event-test.true c.loop-event.invariant c.put_event.ensures

pub returns : goal.returns
returns c =
    rw (take_all c.loop-event.event-index c.args.events.now c.loop-event-test.false) at c.loop-event.invariant
