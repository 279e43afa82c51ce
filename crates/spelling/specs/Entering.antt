-- Calls that enter a message, and what they did, in words.
use Rattle.std.specs.Prelude.{ℕ, ◌==◌, ◌&&◌, List, [], ◌++◌, codes, decimal, nat_lt, if◌then◌else◌}
use Rattle.message.specs.Message.{Message}
use Rattle.spelling.specs.Spelled.{spelled}

-- the call, in words where the form is listed and the field that it does not use is 0, and else by the numbers
abbrev pub entering : ℕ → ℕ → ℕ → List ℕ
entering form x y =
    if form == 1 && y == 0 then codes "enter asymmetric key " ++ decimal x else
    (if form == 2 && y == 0 then codes "enter symmetric key " ++ decimal x else
    (if form == 3 && y == 0 then codes "enter data " ++ decimal x else
    (if form == 4 && y == 0 then codes "enter tag " ++ decimal x else
    (if form == 5 && y == 0 then codes "enter the inverse of message " ++ decimal x else
    (if form == 6 then codes "enter the pair of messages " ++ (decimal x ++ (codes " and " ++ decimal y)) else
    (if form == 7 then codes "enter the asymmetric encryption of message " ++ (decimal x ++ (codes " under message " ++ decimal y)) else
    (if form == 8 then codes "enter the symmetric encryption of message " ++ (decimal x ++ (codes " under message " ++ decimal y)) else
    codes "enter form " ++ (decimal form ++ (codes ", x " ++ (decimal x ++ (codes ", y " ++ decimal y)))))))))))

-- what is said where the message with a number stood among the first so many
abbrev pub again : ℕ → ℕ → List ℕ
again before n = if nat_lt n before then codes ", entered before" else []

-- the message's number, the message, and whether it stood before
abbrev pub entered : List Message → ℕ → ℕ → List ℕ
entered ms before n = codes "message " ++ (decimal n ++ (codes " is " ++ (spelled ms n ++ again before n)))
