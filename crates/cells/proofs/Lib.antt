mod TagBytes
