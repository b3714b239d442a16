-- Versions are in a line, and each entry that is read keeps the lowest one.
use Rattle.std.proofs.Common.{◌≡◌, true, List, [], ◌∷◌, ◌++◌, refl, arith}
use Rattle.{event_log.specs.declared.entries.Entry.Entry, tracer.specs.{declared.versions.Version.{Version, TheVariants.One}, Versions.{covers, both}}}
use Rattle.tracer.specs.Versions.{version_of_entry, version_from, version_of}

pub covers_first_one : (v : Version) → covers v One ≡ true
covers_first_one v = grind arith

pub covers_both : (v u w : Version) → covers v u ≡ true → covers v w ≡ true → covers v (both u w) ≡ true
covers_both v u w first second = grind arith

-- a version that covers both covers each
pub covers_first : (v u w : Version) → covers v (both u w) ≡ true → covers v u ≡ true
covers_first v u w is = grind arith

pub covers_second : (v u w : Version) → covers v (both u w) ≡ true → covers v w ≡ true
covers_second v u w is = grind arith

covers_start : (v : Version) (es : List Entry) → covers (version_from v es) v ≡ true
covers_start v [] = grind arith
covers_start v (e ∷ es) = covers_first (version_from (both v (version_of_entry e)) es) v (version_of_entry e) (covers_start (both v (version_of_entry e)) es)

-- the lowest version of a list covers its first entry
pub covers_next : (v : Version) (e : Entry) (es : List Entry) → covers (version_from v (e ∷ es)) (version_of_entry e) ≡ true
covers_next v e es = covers_second (version_from (both v (version_of_entry e)) es) v (version_of_entry e) (covers_start (both v (version_of_entry e)) es)

version_from_more : (v : Version) (es : List Entry) (e : Entry) → version_from v (es ++ e ∷ []) ≡ both (version_from v es) (version_of_entry e)
version_from_more v [] e = refl
version_from_more v (x ∷ es) e = version_from_more (both v (version_of_entry x)) es e

-- one entry more
pub version_more : (es : List Entry) (e : Entry) → version_of (es ++ e ∷ []) ≡ both (version_of es) (version_of_entry e)
version_more es e = version_from_more One es e
