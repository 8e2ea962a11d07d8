-- Where an ask comes from.
use Rattle.reply_text.specs.declared.origin.Origin.{Origin}
use Rattle.transforms.specs.declared.ask.Ask.{Ask}

-- from which line of which client's script it is
abbrev pub ask_origin : Ask → Origin
ask_origin ask = record { client = ask.client; line = ask.line }
