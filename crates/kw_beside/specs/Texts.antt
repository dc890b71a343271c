-- Parts of a text, each made by a thread.
use Rattle.std.specs.Prelude.{ℕ, List, [], Result, Ok, Err, Vec}
use Rattle.std.specs.declared.alloc.Global.{Global}
use Rattle.kw_model.specs.declared.memory.Memory.{Memory}

-- the text of a part, and nothing of a part for which there was no memory
abbrev pub text_in : Result (Vec ℕ Global) Memory → List ℕ
text_in (Ok text) = text.items
text_in (Err memory) = []
