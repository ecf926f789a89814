-- What a lexer has left of its text.
use Rattle.std.specs.Prelude.{List, []}
use Rattle.words.specs.declared.lexer.Lexer.{Lexer}
use Rattle.words.specs.Lexemes.{Lexeme, TextEnd, lexemes_from}

abbrev pub left : Lexer → List Lexeme
left l = lexemes_from l.text.now l.place

-- the lexemes after one of them: none after the text's end
abbrev pub onward : Lexeme → List Lexeme → List Lexeme
onward (TextEnd n) ts = []
onward t ts = ts
