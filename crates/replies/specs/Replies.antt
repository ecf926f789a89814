-- How a reply of the code is written.
use Rattle.std.specs.Prelude.{ℕ, List, string_bytes}
use Rattle.replies.specs.declared.reply.Reply.{Reply}
use Rattle.replies.specs.declared.reply.Reply.TheVariants.{Kind, Entered, Searched, Covered, Listing, Refused}
use Rattle.replies.specs.Lines.{kind_line, entered_line, searched_line, covered_line, refused_line}

abbrev pub reply_text : Reply → List ℕ
reply_text (Kind kind) = kind_line kind
reply_text (Entered number) = entered_line number
reply_text (Searched answer inputs) = searched_line answer inputs
reply_text (Covered count) = covered_line count
reply_text (Listing text) = string_bytes text
reply_text (Refused cause) = refused_line cause
