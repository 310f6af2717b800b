use Rattle.hir_wire.specs.Replies.{reply_data}
use Rattle.hir_wire.proofs.PlainLemmas.{plain_reply, written_plain}
use Rattle.hir_wire.proofs.write.reply.reply_text.Goals as goal

-- no reply has a float, so what was written of its value is its text
pub returns-in_ok-reply_value-in-None : goal.returns-in_ok-reply_value-in-None
returns-in_ok-reply_value-in-None c =
    record {
      value = written_plain c.to_string.result _ (reply_data c.args.reply.now) c.to_string.ensures.text c.in_ok-reply_value-in-None.ensures.value
          (plain_reply c.args.reply.now);
    }
