-- What is written for a reply, and what of it when a write fails?
use Rattle.std.specs.Prelude.{◌≡◌, ◌≢◌, ◌⊎◌, ℕ, List, [], ◌∷◌, ◌++◌, Option, false}
use Rattle.std.specs.Io.KnownBytes.{Appends}
use Rattle.hir_wire.specs.Replies.{text_of, is_fixed}
use Rattle.hir_messages.specs.declared.reply.Reply.{Reply}
use Rattle.hir_messages.specs.declared.reply.Reply.TheVariants as reply

-- the text of a reply and a line end
abbrev pub reply_line : Reply → List ℕ
reply_line answer = text_of answer ++ 10 ∷ []

-- a front of the text was written, and not all of it
pub record WritesPart (before after : Option (List ℕ)) (text : List ℕ) : Type 0 where
  pub part : List ℕ
  pub rest : List ℕ
  pub whole : text ≡ part ++ rest
  pub some_left : rest ≢ []
  pub written : Appends before after part

-- a reply is told as it is, or as want of memory where its text takes some
abbrev pub IsToldAs : Reply → Reply → Type 0
IsToldAs answer told = (told ≡ answer) ⊎ ((is_fixed answer ≡ false) × (told ≡ reply.Memory))

-- the line of a reply was written
pub record WritesReply (before after : Option (List ℕ)) (answer : Reply) : Type 0 where
  pub told : Reply
  pub told_as : IsToldAs answer told
  pub written : Appends before after (reply_line told)

-- a front of the line of a reply was written, and not all of it
pub record WritesReplyPart (before after : Option (List ℕ)) (answer : Reply) : Type 0 where
  pub told : Reply
  pub told_as : IsToldAs answer told
  pub written : WritesPart before after (reply_line told)
