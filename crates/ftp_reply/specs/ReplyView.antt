-- Replies as contracts see them.
use Rattle.std.specs.Prelude.{map}
use Rattle.ftp_terms.specs.LineText.{text_of}
use Rattle.ftp_reply.specs.declared.codes.ReplyCode.{ReplyCode}
use Rattle.ftp_reply.specs.declared.replies.Lines.{Lines}
use Rattle.ftp_reply.specs.declared.replies.Lines.TheVariants.{One, Several}
use Rattle.ftp_reply.specs.Replies.{ReplyForm, OneLine, SeveralLines}

abbrev pub form_of : {A : Type 0} → ReplyCode → Lines A → ReplyForm
form_of code (One text) = OneLine code.number (text_of text)
form_of code (Several first inner last) =
    SeveralLines code.number (text_of first) (map text_of inner.items) (text_of last)
