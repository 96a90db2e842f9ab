-- A phrase by its place among the book's or the own ones, as the lookup finds it.
use Rattle.std.specs.Prelude.{◌<◌, [], length, get_or}
use Rattle.text.specs.Text.{Text}
use Rattle.phrases.specs.Phrases.{Phrases}
use Rattle.phrases.specs.declared.Found.{Found}
use Rattle.phrases.specs.declared.Found.TheVariants.{InBook, InOwn}

-- whether there is a phrase at a place
abbrev pub Has : Phrases → Found → Type 0
Has p (InBook i) = i < length p.book
Has p (InOwn i) = i < length p.own

-- the text of the phrase at a place
abbrev pub phrase_at : Phrases → Found → Text
phrase_at p (InBook i) = get_or p.book i []
phrase_at p (InOwn i) = get_or p.own i []
