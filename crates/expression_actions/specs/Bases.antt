-- A base whose tokens are being read (C 6.7).
use Rattle.std.specs.Prelude.{false, List, [], Option, Some, None}
use Rattle.rvt_tree.specs.declared.places.Place.{Place}
use Rattle.c_syntax.specs.declared.bases.Base.{Base}
use Rattle.c_syntax.specs.declared.bases.Specifier.{Specifier}
use Rattle.c_syntax.specs.declared.bases.Specifier.TheVariants as S
use Rattle.c_syntax.specs.declared.bases.TypeWord.{TypeWord}
use Rattle.expression_actions.specs.declared.half_bases.HalfBase.{HalfBase}

-- before its first token
abbrev pub empty_base : HalfBase
empty_base = record { place = None; constant = false; words = []; tag = None }

-- it stands where its first token does
abbrev pub first_place : Place → Option Place → Option Place
first_place place None = Some place
first_place place (Some first) = Some first

abbrev pub begun_at : Place → HalfBase → HalfBase
begun_at place base = record base { place = first_place place base.place }

-- the type of its tag or type name, else that of its words
abbrev pub specifier_of : List TypeWord → Option Specifier → Specifier
specifier_of words None = S.Words words
specifier_of words (Some tag) = tag

-- the place of its first token; each base has one
abbrev pub place_of : Option Place → Place
place_of None = record { line = 1; column = 1 }
place_of (Some place) = place

-- the base, all of whose tokens were read
abbrev pub base_of : HalfBase → Base
base_of b = record { place = place_of b.place; constant = b.constant; specifier = specifier_of b.words b.tag }
